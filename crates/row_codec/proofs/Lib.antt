pub mod Ends
pub mod RowFields
pub mod Sizes
