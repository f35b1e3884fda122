pub mod Rows
pub mod Wanted
pub mod Gathered
pub mod Calls
pub mod Sealed
