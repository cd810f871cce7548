pub mod Gaps
pub mod Stairs
pub mod Octaves
pub mod Moving
