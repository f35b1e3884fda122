pub mod SameRows
mod Deduped
pub mod Selected
pub mod Both
pub mod Places
