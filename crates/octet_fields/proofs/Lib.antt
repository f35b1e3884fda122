pub mod Exact
pub mod Numbers
pub mod Times
pub mod Answers
pub mod Stations
