-- Laws that belong to no one function; from Bridge on, how the step on arrays is the machine on lists.
pub mod Signed
pub mod Axis
pub mod Acts
pub mod Dot
pub mod Turns
pub mod Bridge
pub mod Offsets
pub mod Plans
pub mod Reached
