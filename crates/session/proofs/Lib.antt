pub mod Comparing
pub mod Tabling
pub mod Keeping
pub mod Holding
pub mod Picking
