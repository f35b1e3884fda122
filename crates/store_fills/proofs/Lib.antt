pub mod Bases
pub mod Built
pub mod Faults
pub mod RightFills
pub mod FillPlaces
pub mod Soundness
