pub mod Relations
pub mod Checked
pub mod TwoUses
pub mod FiveUses
pub mod Spans
pub mod SpanLaws
pub mod Fields
