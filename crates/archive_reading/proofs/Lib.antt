pub mod Admitting
pub mod Archives
pub mod Fillable
pub mod KeptMarks
pub mod Refusals
