pub mod Inputs
pub mod Transcript
pub mod Lawful
pub mod NumberedLine
pub mod History
pub mod Stands
pub mod Theorems
pub mod Examples
