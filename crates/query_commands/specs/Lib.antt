pub mod Query
pub mod QueryReplying
pub mod Sql
pub mod SqlReplying
