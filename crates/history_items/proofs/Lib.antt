pub mod Places
pub mod ItemLists
pub mod Databases
pub mod Outcomes
pub mod Late
pub mod FillLists
pub mod LastSaid
pub mod Flights
