pub mod CalendarFacts
pub mod CivilFacts
pub mod DateFacts
pub mod DayFacts
pub mod DigitFacts
pub mod MomentFacts
pub mod ReadingFacts
pub mod WritingFacts
