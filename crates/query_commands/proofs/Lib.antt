pub mod QueryPlan
pub mod Replies
pub mod SqlPlan
