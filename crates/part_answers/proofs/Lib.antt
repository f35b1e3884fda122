pub mod FoundCells
pub mod Limited
pub mod Counted
pub mod Timely
pub mod OverRows
