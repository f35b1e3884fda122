pub mod Flying
pub mod Marked
pub mod Runs
pub mod Placed
pub mod PlacedRuns
