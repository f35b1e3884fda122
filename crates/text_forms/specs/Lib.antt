pub mod ClockTime
pub mod Digits
pub mod Names
