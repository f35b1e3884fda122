pub mod Inputs
pub mod Ledger
pub mod Plan
pub mod Reading
pub mod Sources
