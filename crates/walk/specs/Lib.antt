-- What the functions of a step ask and leave.
pub mod Lent
pub mod Onward
