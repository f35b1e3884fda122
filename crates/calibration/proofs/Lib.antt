pub mod Bounds
pub mod Rising
pub mod Neighbours
pub mod Line
pub mod Sums
pub mod Admission
pub mod Rules
pub mod Labels
