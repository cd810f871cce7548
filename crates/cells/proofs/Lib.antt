pub mod Moving
pub mod Steps
pub mod Running
pub mod Crossing
pub mod Patching
pub mod Packing
pub mod Lying
pub mod Turning
