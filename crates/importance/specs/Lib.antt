pub mod Checked
pub mod Tried
pub mod Tries
