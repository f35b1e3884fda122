pub mod Placed
pub mod Order
pub mod Pages
pub mod Footer
pub mod Index
pub mod Runs
pub mod Damage
pub mod Laws
