pub mod Glances
pub mod Sending
pub mod Shares
