-- Laws of fused axes and of the two index maps, up to the entries' definitions; and of axes that stand in arrays.
pub mod Radix
pub mod Strides
pub mod Fused
pub mod Joined
pub mod Ordered
pub mod Maps
pub mod Reach
pub mod Entries
pub mod Arrays
pub mod Places
pub mod Finding
