-- Laws of the refusal table: how the first row that applies is found, rows 5, 6 and 24, that a record is allowed in one way, and what a layout that no row refuses has.
pub mod Rows
pub mod Operands
pub mod Zeros
pub mod Reaches
pub mod Accepted
pub mod Record
pub mod Allowed
