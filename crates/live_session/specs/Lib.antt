pub mod Jobs
pub mod Orders
pub mod Session
pub mod Links
pub mod Results
pub mod Interleaving
pub mod Outcome
