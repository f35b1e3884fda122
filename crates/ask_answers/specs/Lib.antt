pub mod Asks
pub mod Collected
