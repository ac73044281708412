pub mod Bits
pub mod NumbersLemmas
