-- Laws of the walklist text: its numbers and how long they are, that a text says one thing at most, how its rows stand to those of planning,
-- the figures of its last line, that a plan's walk begins at 0, and what an answer tells.
pub mod Lengths
pub mod Numbers
pub mod Once
pub mod Planning
pub mod Example
pub mod Totals
pub mod Begins
pub mod Answers
