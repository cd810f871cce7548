-- The step on arrays: its definitions.
pub mod Filled
pub mod Moves
pub mod Axis
pub mod Arrays
pub mod Carry
pub mod Blocks
pub mod Sized
