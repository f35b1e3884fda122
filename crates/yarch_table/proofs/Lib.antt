pub mod Insertion
pub mod RowsLeft
pub mod Ranged
pub mod Histories
pub mod ByKey
