pub mod Joining
pub mod Fusing
pub mod Keeping
pub mod Costing
pub mod Planning
