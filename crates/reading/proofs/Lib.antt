-- Laws that several proofs use, a file for each kind of part of the text.
pub mod Answers
pub mod Digits
pub mod Signs
pub mod Rows
pub mod Heads
pub mod Lines
pub mod Texts
