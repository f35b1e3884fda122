pub mod Turns
pub mod Sent
pub mod Laws
