-- TWO READERS OF A BLOCK, document 02's ask 10: a visit is a step with its record, and two views come from the record. Number, Views and
-- Visits say what is meant, Memory what lent memory holds, Tally what the functions that work the number out ask and answer. What holds of every
-- visit (TwoReaders is in proofs/):
--   the number worked out from the counters is the place in document 01's list   Places    number-place
--   after n steps it is n                                                        Places    number-after_steps; TwoReaders step-number
--   the engineer's view is what the step hands out                               TwoReaders visit_is_step
--   a student's lines do not depend on the starts                                TwoReaders same_lines
--   no visit of a layout's own plan is refused: they are its steps, seen         TwoReaders visits-seen
--   a line's index gives, by the original strides, the engineer's offsets        TwoReaders lines_right
--   small plans computed, and the order of the rows                              Examples  all_right, visit_rows_lem
pub mod Number
pub mod Views
pub mod Visits
pub mod Memory
pub mod Tally
pub mod Places
pub mod Examples
