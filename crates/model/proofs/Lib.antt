-- Laws that belong to no one function.
pub mod Filled
pub mod Growing
pub mod Rests
pub mod Rooms
pub mod Whole
