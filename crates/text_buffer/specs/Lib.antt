pub mod TextBuffer
