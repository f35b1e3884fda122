pub mod Sheets
pub mod Inside
pub mod SheetResults
pub mod Rechecking
