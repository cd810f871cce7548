-- Request 11 of document 02, "Sums for the journals": what a summary of f64 cells is, in which order the cells are met, what is refused, and
-- what holds of every summary (Orders, Exact, Quiet, Pairs and Served are in proofs/):
--   the count is the layout's total; each index is met exactly once    Orders  count-total, index_once
--   the order is fixed by layout and record alone                      Orders  start_moves, same_order
--   whole numbers up to 2^53 in all are summed exactly                 Orders  sum_exact (Exact  sum-whole)
--   the extremes are cells, and no other is beyond them                Orders  extremes_cells, cell_bounded
--   not-a-number cells are counted, and make the sum one               Orders  nans_counted, nan_sum
--   a cell between the extremes changes sum and count alone            Quiet   quiet_cell
--   of two numbers the lesser and the greater reach the extremes       Pairs   both_cells
--   where row 22 passes row 9 does                                     Served  inside_stays
pub mod Sums
pub mod Visits
pub mod Rows
pub mod Memory
pub mod Whole
pub mod Ordered
pub mod Extremes
pub mod Indices
pub mod Ahead
pub mod Parts
