pub mod Scripts
pub mod Statements
