pub mod Kept
pub mod Planned
pub mod Sizes
