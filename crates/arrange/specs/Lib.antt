pub mod Axes
pub mod Fusing
