pub mod Spans
pub mod Times
pub mod Histogram
pub mod Near
pub mod SpanEntries
pub mod Walk
pub mod OneName
