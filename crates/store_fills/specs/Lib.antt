pub mod Sound
pub mod LastFills
pub mod Filled
pub mod Faults
pub mod Built
pub mod Laws
