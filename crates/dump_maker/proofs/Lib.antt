pub mod Made
pub mod MadeSheets
