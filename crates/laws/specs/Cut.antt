-- Laws of "The plan": cutting ends, may jump and leaves no block below 1, regions and loads grow with the blocks, declining and the fit by the
-- tests of a loop.
pub mod Ranges
pub mod Until
pub mod Picks
pub mod Steps
pub mod Above
pub mod Grow
pub mod Jump
pub mod Level
pub mod Cases
pub mod Saturate
pub mod Rising
pub mod Elements
pub mod Same
pub mod Image
pub mod Tables
