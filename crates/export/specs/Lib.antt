-- Ask 3, "An export crate that moves the cells": what the destination holds afterwards, what a copy is refused for, and what holds of both
-- (Meaning, Outside, Walks and Plains are in proofs/):
--   the fold over indices is the sentence of ask 3, byte by byte        Meaning  exported_afterwards, afterwards_one
--   row 17 applies exactly if some byte of some cell is outside         Outside  row17_exact
--   a zero extent copies nothing, and rows 17 and 18 are not due        Zeros    zero_copies
--   the blocks of the plan, from the starts, give the same bytes        Walks    walk-exported
--   and where both operands lie without gaps one move of bytes does     Plains   packed-exported
--   small copies, computed                                              Figures  rows_right
pub mod Export
pub mod Memory
pub mod Indices
pub mod Rows
pub mod Width
pub mod Zeros
pub mod Blocks
pub mod Steps
pub mod Packed
pub mod Figures
