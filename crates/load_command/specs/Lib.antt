pub mod Load
pub mod LoadLine
pub mod Loading
