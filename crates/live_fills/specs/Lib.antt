pub mod LiveTarget
pub mod Filler
pub mod Laws
