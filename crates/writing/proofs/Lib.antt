pub mod Doing
-- Laws that belong to no one function.
pub mod Taking
pub mod Digits
pub mod Sign
pub mod Lines
pub mod Axes
pub mod Printing
pub mod Laid
pub mod Walks
