pub mod Meanings
pub mod Names
pub mod Settings
pub mod OrderLaws
pub mod TableLaws
