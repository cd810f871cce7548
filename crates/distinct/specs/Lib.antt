-- The words of this crate: rising lists and their merge (`Lists`), copies of a list at equal distances (`Copies`), and an operand (`Operand`).
pub mod Lists
pub mod Copies
pub mod Operand
