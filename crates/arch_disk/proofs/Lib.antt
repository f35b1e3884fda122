pub mod Crashes
pub mod Moments
pub mod Noted
pub mod Places
pub mod SyncedFiles
