pub mod Fields
pub mod Reached
pub mod AskRows
pub mod AskSheets
pub mod Sheets
pub mod NameLists
