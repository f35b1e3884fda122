pub mod Rest
pub mod Cut
pub mod Split
pub mod Pieces
pub mod Waiting
