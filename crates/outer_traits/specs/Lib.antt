pub mod Outside
pub mod States
pub mod MemInputs
pub mod Whole
pub mod MemSink
