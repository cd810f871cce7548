-- What the readers answer, each of its own part of the text.
pub mod Here
pub mod Bytes
pub mod Numbers
pub mod Rows
pub mod Heads
pub mod Laid
pub mod Lines
pub mod Texts
pub mod Counted
