pub mod NotedNumbers
pub mod Steps
pub mod Totals
