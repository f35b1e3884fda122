pub mod IntervalOrder
pub mod Positions
pub mod LateFree
