pub mod Order
pub mod Blocks
