pub mod CellCounts
pub mod LimitTests
pub mod PacketNames
pub mod ScanPlan
pub mod Scanned
pub mod Valued
pub mod ValuesPlan
pub mod Visible
