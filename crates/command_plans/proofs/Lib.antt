pub mod Plans
pub mod Ledgers
pub mod Inputs
pub mod Readings
pub mod Whole
pub mod Sources
