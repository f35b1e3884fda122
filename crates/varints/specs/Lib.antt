pub mod Varint
pub mod Words
