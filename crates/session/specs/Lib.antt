-- OPERANDS THAT COME AND GO, document 02's ask 8. Session says what is meant, Made what the functions ask of lent arrays and leave in them,
-- Memory how a C program lends the numbers; Tables and Tabled are about the table of ranks. What holds of every session:
--   row 10's test is its claim                                               Same      holds-right, right-holds
--   what begins, and what an accepted call hands out, is right               Afresh    right-fresh, joined-right, left-right
--   row 10 applies exactly to what no beginning and accepted calls lead to   Reached   row10_exact, row10-passes
--   after any accepted calls each kept part is what the layout gives afresh  Reached   reached_kept
--   the ranks of operands that stayed are the numbers they had               Stays     join_keeps, leave_keeps
--   the chosen operand has the size and the strides that it had              Stays     chosen_moves
--   the order of the rows, and small layouts computed                        Figures   begin-rows, join_rows_lem, leave_rows_lem, leave_moves, leave_chosen
pub mod Session
pub mod Same
pub mod Afresh
pub mod Tables
pub mod Tabled
pub mod Reached
pub mod Stays
pub mod Made
pub mod Memory
pub mod Figures
