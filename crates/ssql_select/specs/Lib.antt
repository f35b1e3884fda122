pub mod Selection
pub mod SelectionText
pub mod ShowText
pub mod Laws
