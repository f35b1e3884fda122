pub mod Lists
pub mod Turn
pub mod Pass
