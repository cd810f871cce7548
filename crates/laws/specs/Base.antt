-- Laws of the common words: tests, lists, whole numbers and their bits, sums and counts, arrays with a count and how loops fill them, layouts
-- and refusals.
pub mod Tests
pub mod Lists
pub mod Integers
pub mod Bits
pub mod Signs
pub mod Ranges
pub mod Sums
pub mod Positions
pub mod Counting
pub mod Trace
pub mod Arrays
pub mod Filling
pub mod Stores
pub mod Rows
pub mod Layouts
pub mod Refusals
