-- What the function that turns a text into the bytes printed leaves, and when help is asked for.
pub mod Asking
pub mod Printing
