pub mod Times
pub mod Intervals
pub mod Growing
pub mod Steps
pub mod Freed
