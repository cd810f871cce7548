-- JUDGING ANOTHER TOOL'S WALK, document 02's ask 12: "Labs list visits from their own tools and ask whether their coverage is complete."
-- Visits and Judge say what is meant, Memory what the C function answers; Laying, Marks, Readers and Passes what the inner functions answer.
-- The others, and in proofs/, are what holds: each verdict by its claim (Verdicts), the marks (Marked), the order of lines (Orders), our own walks
-- (Own, Blocks, Along), and short lists computed (Figures).
pub mod Visits
pub mod Judge
pub mod Memory
pub mod Laying
pub mod Marks
pub mod Readers
pub mod Passes
pub mod Counts
pub mod Once
