-- Laws that several proofs use.
pub mod Answers
pub mod Numbers
