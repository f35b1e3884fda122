pub mod HeldParts
pub mod RisingParts
pub mod ScriptAnswers
pub mod ScriptLimits
pub mod StatementLoop
pub mod StatementSteps
pub mod Told
pub mod Unprinted
