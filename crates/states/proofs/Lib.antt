-- Laws that belong to no one function.
pub mod Rooms
pub mod Ways
pub mod Blanks
pub mod Nearness
pub mod Table
pub mod Reaching
