pub mod NameNumbers
pub mod Arrived
pub mod Batching
pub mod During
pub mod FilledTasks
