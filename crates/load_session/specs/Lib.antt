pub mod Receiving
pub mod Batches
pub mod During
pub mod Session
pub mod Filling
pub mod Laws
