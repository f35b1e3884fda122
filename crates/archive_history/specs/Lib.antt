pub mod History
pub mod Limits
pub mod PartitionedTable
pub mod RowLimits
pub mod Tables
pub mod LimitCounts
