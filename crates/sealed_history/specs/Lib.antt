pub mod Held
pub mod SealedHistory
pub mod Inside
pub mod Laws
