pub mod SpanCodes
pub mod SpanFields
