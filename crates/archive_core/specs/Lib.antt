pub mod Cells
pub mod Asks
pub mod Replies
pub mod Machine
pub mod Core
pub mod RowTests
pub mod Alike
pub mod Laws
