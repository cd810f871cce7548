pub mod Strides
pub mod Reading
pub mod Peaks
pub mod Fills
pub mod Forms
pub mod Spelling
pub mod Telling
pub mod Trips
