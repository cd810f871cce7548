-- What the checks of a walk's beginning and of its states answer.
pub mod Starts
pub mod Arrays
pub mod Near
pub mod Reaches
pub mod Lent
