pub mod Laws
pub mod Publications
pub mod Renewing
