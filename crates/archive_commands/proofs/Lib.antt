pub mod ArchiveOrNone
pub mod Comparing
pub mod CreatePlan
pub mod Created
pub mod NewTables
pub mod Recovered
