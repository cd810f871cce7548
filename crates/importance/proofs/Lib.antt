pub mod Checks
pub mod Lightness
pub mod Adding
pub mod Trying
pub mod Inserting
pub mod Reading
