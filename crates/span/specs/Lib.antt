-- Whether some cell of an operand lies outside the cells that are lent: the claim over indices, the test, and that the two are one.
pub mod Span
pub mod Ways
pub mod Exact
