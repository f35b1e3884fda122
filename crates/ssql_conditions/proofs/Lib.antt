pub mod Meanings
pub mod Negations
pub mod InBounds
pub mod ClockRanges
