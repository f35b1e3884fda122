pub mod Listings
pub mod Rules
pub mod Shelves
