-- Laws that belong to no one function.
pub mod Widths
pub mod Stepping
pub mod Answered
