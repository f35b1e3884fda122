pub mod Links
pub mod Reading
pub mod Ends
pub mod Underway
pub mod Laws
