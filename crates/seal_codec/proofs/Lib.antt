pub mod SealSpelling
