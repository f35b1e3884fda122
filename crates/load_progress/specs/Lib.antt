pub mod Passes
pub mod Throughput
pub mod Watched
