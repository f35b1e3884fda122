pub mod AskSheets
pub mod AskSteps
pub mod CollectedTexts
