-- Laws of the L1 fit: how good it is, by itself and at the plans, and where it changes nothing.
pub mod Good
pub mod Idle
pub mod Plans
