pub mod PartialArchive
