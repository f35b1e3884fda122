pub mod Held
mod WantedRows
mod Spans
mod Gathering
pub mod Below
mod Told
mod KeyPlaces
mod Days
mod KeptRows
mod Faults
