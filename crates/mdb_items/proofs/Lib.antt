pub mod Powers
pub mod Records
pub mod Places
pub mod Ends
pub mod ContainerPaths
