pub mod RowSource
pub mod Replay
pub mod Cursor
pub mod Fetch
pub mod Laws
