pub mod Made
pub mod Make
pub mod Summary
pub mod Summing
