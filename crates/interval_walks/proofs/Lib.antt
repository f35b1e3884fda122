pub mod Counts
pub mod Covering
pub mod Rising
pub mod Turns
