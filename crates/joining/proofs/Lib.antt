pub mod Laying
pub mod Closing
pub mod Moving
pub mod Answering
