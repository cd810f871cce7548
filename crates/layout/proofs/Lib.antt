-- Laws that belong to no one function.
pub mod Totals
pub mod Caps
pub mod Tests
pub mod Checks
pub mod Table
pub mod Nearness
pub mod Ranges
pub mod Signs
pub mod Lending
