pub mod Memory
pub mod Mapped
