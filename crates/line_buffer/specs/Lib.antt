pub mod LineRoom
pub mod Output
pub mod Printed
