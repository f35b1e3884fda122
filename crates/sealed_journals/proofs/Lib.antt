pub mod LogsOnce
pub mod Kept
