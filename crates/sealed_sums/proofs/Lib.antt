pub mod Stretches
pub mod Positions
pub mod HistoryMarks
pub mod Summing
pub mod Told
pub mod OrderBlind
pub mod Summed
