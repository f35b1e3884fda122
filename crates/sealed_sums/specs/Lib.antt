pub mod Stretch
pub mod TableSums
pub mod Sums
pub mod InOrder
pub mod Laws
