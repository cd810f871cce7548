-- What the C functions promise beyond the entries that they call.
pub mod Codes
pub mod Version
