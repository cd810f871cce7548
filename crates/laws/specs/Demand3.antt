-- Demand 3, proved over the definitions that the entries cite.
pub mod Served
pub mod Whole
