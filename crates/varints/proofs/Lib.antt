pub mod Varints
pub mod Words
