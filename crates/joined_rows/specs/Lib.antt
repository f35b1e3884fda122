pub mod Rising
pub mod Joined
