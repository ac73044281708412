pub mod CarriedOutLemmas
pub mod HandInLemmas
