-- Laws that belong to no one function; TwoReaders has those of the visits of a walk.
pub mod Tallies
pub mod Seeing
pub mod Answers
pub mod TwoReaders
