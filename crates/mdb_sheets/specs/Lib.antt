pub mod Sheets
pub mod Asks
pub mod Plans
