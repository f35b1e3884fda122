pub mod Counting
pub mod DumpIndex
pub mod DumpTable
pub mod Receiving
pub mod Text
pub mod Printing
