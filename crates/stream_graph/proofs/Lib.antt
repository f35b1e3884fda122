pub mod StreamPaths
pub mod ReachedTables
pub mod StatementPass
