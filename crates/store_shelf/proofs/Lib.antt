pub mod Beginning
pub mod Marking
pub mod Staying
pub mod Renewing
