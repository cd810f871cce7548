-- What the functions that measure and write ask and leave.
pub mod Put
pub mod Putting
pub mod Line
pub mod Sink
pub mod Plan
pub mod Stretch
