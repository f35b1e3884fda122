pub mod Intervals
pub mod Steps
pub mod Invariant
pub mod Laws
