pub mod Order
pub mod Blocks
pub mod Searching
pub mod Putting
