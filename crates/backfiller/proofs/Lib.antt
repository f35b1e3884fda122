pub mod HandedOn
pub mod Steps
