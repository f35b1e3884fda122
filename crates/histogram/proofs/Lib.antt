pub mod Order
pub mod Times
pub mod Addition
pub mod Runs
pub mod Entries
pub mod Ahead
pub mod Added
pub mod OneName
