pub mod Kept
pub mod Turns
pub mod Maps
pub mod Answers
