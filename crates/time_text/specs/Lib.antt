pub mod Calendar
pub mod Civil
pub mod Day
pub mod Digits
pub mod Laws
pub mod Spelling
pub mod TimeText
