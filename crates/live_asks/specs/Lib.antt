pub mod LiveAsks
