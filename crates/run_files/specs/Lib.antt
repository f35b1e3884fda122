pub mod Faults
pub mod Run
pub mod Lookup
pub mod Laws
pub mod Calls
pub mod Opening
pub mod Writing
