pub mod FillSpelling
pub mod RowLists
pub mod Openings
pub mod EntryKinds
pub mod Lengths
pub mod DatabaseSizes
pub mod Sizes
