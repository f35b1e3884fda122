pub mod Mark
pub mod Marks
pub mod MarkIndexes
