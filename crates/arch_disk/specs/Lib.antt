pub mod Crash
pub mod Disk
pub mod Files
pub mod CallLog
pub mod Image
pub mod Laws
pub mod Memory
pub mod Steps
