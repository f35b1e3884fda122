pub mod Sees
pub mod Taken
pub mod Looking
pub mod Asking
pub mod Each
pub mod Settled
