pub mod Routes
pub mod RouteTables
pub mod Laws
