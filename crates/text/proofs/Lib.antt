-- The laws behind the text entry.
pub mod Listings
