-- The forms in which the code's loops come to strided's total and reach.
pub mod Below
pub mod Checked
pub mod Fitting
pub mod Held
pub mod Lent
pub mod Near
pub mod Rows
