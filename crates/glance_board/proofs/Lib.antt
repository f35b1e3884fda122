pub mod Following
pub mod Shelving
pub mod Sending
