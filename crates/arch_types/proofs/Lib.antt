pub mod Dumps
pub mod Histories
pub mod InOrder
pub mod Ordered
pub mod Slices
pub mod Ranks
pub mod Texts
