pub mod InLineLemmas
pub mod RowsLemmas
pub mod Closing
