pub mod Spans
pub mod Refused
pub mod Asked
pub mod Answered
pub mod Listed
