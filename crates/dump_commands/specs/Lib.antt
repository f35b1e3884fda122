pub mod ReadDump
pub mod Scan
pub mod Values
pub mod ValuesPrinting
