pub mod Cells
pub mod Counting
pub mod Currents
pub mod FirstDifferences
pub mod Images
