pub mod Packed
pub mod Kept
