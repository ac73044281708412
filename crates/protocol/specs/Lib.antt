pub mod Faults
pub mod Form
pub mod Reading
pub mod Fields
pub mod Words
pub mod Theorems
pub mod Examples
