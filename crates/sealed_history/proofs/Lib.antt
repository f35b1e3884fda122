pub mod Alone
pub mod Within
pub mod Pieces
pub mod Whole
pub mod TableRows
pub mod Sending
