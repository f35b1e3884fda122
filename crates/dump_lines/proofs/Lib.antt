pub mod Gathered
pub mod Indexed
pub mod Receivings
pub mod Scanned
