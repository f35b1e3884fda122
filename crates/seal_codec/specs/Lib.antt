pub mod Seals
pub mod Files
pub mod Laws
