pub mod Pieces
pub mod ReadSoFar
