pub mod Made
pub mod Sheets
pub mod Laws
