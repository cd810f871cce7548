-- Stretches of blocks: the way that they go, what the functions that hand them out ask and leave, and the stretches of a walk.
pub mod Way
pub mod Stretch
