pub mod Journals
pub mod Counts
pub mod Runs
pub mod Laws
