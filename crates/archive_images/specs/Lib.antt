pub mod Images
pub mod Entries
pub mod Stands
pub mod Unacknowledged
pub mod SealFiles
pub mod Below
pub mod Moments
pub mod Laws
