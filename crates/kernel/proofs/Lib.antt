-- Laws that belong to no one function.
pub mod Clearing
pub mod Plans
