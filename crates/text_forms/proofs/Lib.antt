pub mod DigitFacts
pub mod Powers
