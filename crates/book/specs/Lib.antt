pub mod Answer
pub mod Tables
pub mod Book
