-- Laws of ways and stretches. What others cite: Walked, what a loop over stretches keeps; Repeated, what all the stretches of a walk are.
pub mod Ahead
pub mod Leading
pub mod Going
pub mod Leaving
pub mod Rows
pub mod Stretching
pub mod Walked
pub mod Left
pub mod Repeated
