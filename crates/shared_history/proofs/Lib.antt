pub mod Members
pub mod Putting
pub mod Own
pub mod Fresh
pub mod OneLink
pub mod Sending
