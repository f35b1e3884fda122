pub mod Bits
pub mod Values
pub mod Chain
pub mod Step
pub mod Room
pub mod Extraction
pub mod Answer
pub mod Laws
