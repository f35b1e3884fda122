pub mod Reading
pub mod Spelling
pub mod Exact
pub mod Answers
pub mod Example
