pub mod Create
pub mod Recover
pub mod Verify
