pub mod Plannable
pub mod ByteRows
pub mod Exits
