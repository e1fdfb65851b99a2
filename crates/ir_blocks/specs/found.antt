pub mod Spans
pub mod Padded
pub mod View
pub mod TailSpans
pub mod SpanIters
pub mod Lends
pub mod Room
