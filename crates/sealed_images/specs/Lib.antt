pub mod Records
pub mod Damage
pub mod Verdict
pub mod Sealing
pub mod Laws
