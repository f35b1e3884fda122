pub mod FillTracker
pub mod Placed
