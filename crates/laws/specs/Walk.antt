-- Laws of the blocks of a walk, of its steps and its states, and of rows 9 and 10.
pub mod States
pub mod Cuts
pub mod Cover
pub mod Chain
pub mod Reach
pub mod Totals
pub mod Places
pub mod Offsets
pub mod Machine
pub mod Steps
pub mod Row9
pub mod Row10
pub mod Bulk
pub mod Placed
pub mod Number
pub mod Counted
