pub mod Differences
pub mod ComparedSets
pub mod Verified
pub mod Laws
