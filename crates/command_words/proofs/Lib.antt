pub mod Jobs
pub mod Given
pub mod Simple
