-- Laws that belong to no one function; from Meaning on what holds of a copy.
pub mod Bytes
pub mod Copies
pub mod Gaps
pub mod Tests
pub mod Ways
pub mod Meaning
pub mod Walks
pub mod Outside
pub mod Plains
