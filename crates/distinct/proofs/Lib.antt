pub mod Merging
pub mod Joining
pub mod Copying
pub mod Pasting
pub mod Doubling
pub mod Layouts
pub mod Extending
