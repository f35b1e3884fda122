pub mod PackedKey
pub mod Stored
pub mod Index
pub mod Placed
pub mod Laws
