-- Laws that belong to no one function.
pub mod Outside
pub mod Sums
pub mod Selected
pub mod Row15
pub mod Shifting
pub mod Answers
