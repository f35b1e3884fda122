pub mod MemSource
