pub mod Words
pub mod Arguments
pub mod Given
pub mod Job
pub mod JobView
pub mod LoadLimits
