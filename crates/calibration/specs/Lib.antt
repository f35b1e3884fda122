pub mod Calibrated
pub mod Admitted
pub mod Carried
