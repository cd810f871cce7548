-- What holds of the definitions of crate strided, whatever the code. A folder for each part of document 01; the main theorems:
--   what a layout has that planning does not refuse, and back          Refusals/Accepted  accepted, accepted_back
--   fewer cells and less reach are not refused either                  Refusals/Accepted  accepted_within
--   row 24: the test is the claim; an allowed record changes no other row  Refusals/Record  allowed_true, allowed-back, planning_as, planning_layout
--   that a machine record is allowed has one proof                     Refusals/Allowed   Allowed-prop
--   the loop order and the order of fusing are permutations            Order/Permutation  fusing_permutes
--   the loop order is the one that is sorted                           Order/Sorted       loop_order_is
--   sums and products over axes do not depend on the order             Order/Folds        picked_fold
--   the plan keeps the total                                           Fuse/Maps          plan_total
--   the index maps stay in range, undo each other, keep the offsets    Fuse/Maps          plan_in, orig_in, orig_plan, plan_orig, same-dot
--   index finding there and back, at the entries                       Fuse/Entries       told_inverse
--   the plan keeps each operand's reach (row 6)                        Fuse/Reach         plan_reach
--   cutting: the counts never run out, blocks only shrink              Cut/Steps          halved_ends, lessened_small, shrunk_le
--   cutting leaves every block at least 1                              Cut/Above          cutting_above
--   many single steps may be one jump                                  Cut/Jump           jump
--   from the score jumped to few single steps are left, one an axis    Cut/Level          few-left
--   regions and loads grow with the blocks                             Cut/Grow           region_mono, load_mono
--   scores fit 64 bits by row 6 alone                                  Cut/Tables         scores_fit
--   declining axis by axis, in any order, and in elements              Cut/Rising, Cut/Elements  apart_each, passes_elements
--   a number of 32 bits stands for a byte stride of any size           Cut/Image          cutting_exact, fitted_exact
--   cover: each index is a cell of the blocks exactly once             Walk/Cover         met_once, met-within
--   the Z figures: number of blocks, sum of their lengths              Walk/Totals        blocks_number, blocks_total, cells-total, plan_cells
--   the number of a block from its counters: its place, and its bounds Walk/Counted, Walk/Number  number-nth, counters_once, number-after; number_fits
--   chain: the successor hands out the blocks in order                 Walk/Chain         chain
--   reach: the counters that a walk comes to                           Walk/Reach         reach, state-nth
--   row 9 applies exactly if some offset leaves 64-bit signed          Walk/Row9          row9-leaves; of one operand row9_exact
--   row 10 refuses exactly the states that no begun walk reaches       Walk/Row10         row10-refused, row10_exact
--   many steps in one call, and many such calls: the walk's blocks     Walk/Bulk          first_blocks, calls_are, hands_block, place_block
--   the plan's blocks, by offsets and lengths, are those of the steps  Walk/Placed        placed_part, placed-next, placed-over
--   demand 3                                                           Demand3/Whole      demand3, exactly_one
--   the repeat mark: no means that no two indices share an offset      Mark/Marks         no_apart
--   yes means that two do; up to 4,096 cells it is never undecided     Mark/Marks         yes_shared, small_decided
--   the exact test is the claim; sizes serve for strides               Mark/Exact, Mark/Mirror  test_shared, shared_test; shared-near, near-shared
--   the rising test, axis by axis and in any order of equal sizes      Mark/Rises         rises_clear, clear_rises, any_order
--   a text says one thing at most                                      Text/Once          in_form_once
--   a text in the form is refused as planning refuses its layout       Text/Planning      no_row3, as_planning, has_plan
--   a text has one listing at most; some text is in the form           Text/Planning, Text/Example  one_listing, example_in_form
--   the text's figures: the cells are the layout's total               Text/Totals        walk-cells, planned-cells, walk_blocks
--   a planned plan's walk begins at the starts 0                       Text/Begins        planned_begins
--   an axis that nobody moves along is never cut                       Plan/Still         still-whole
--   how good the L1 fit is, by itself and in the plans of P and F      Fit/Good, Fit/Plans  fit_good, fitted_above; plans_good
--   where the load fits the fit changes nothing; fitting twice         Fit/Idle           idle, last_idle, untested, again
--   P and F have one plan with other than two operands, or none chosen Plan/Purposes      fit_alone, fit_unchosen
--   layouts that were answered while row 7 was given keep their plans  Plan/Widened       plans_kept, widened
--   a plan begins where rows 8 and 9 of its layout pass                Plan/Begins        begins_to, begins_from
--   a plan's arrays have 64, 64 and 512 places                         Plan/Places        plan_extents_lem, plan_blocks_lem, plan_strides
--   the text entry's answer: within the lent bytes; in C, or below 0   Text/Answers       lists_within; negated-below, code_within
pub mod Base
pub mod Refusals
pub mod Order
pub mod Fuse
pub mod Cut
pub mod Fit
pub mod Walk
pub mod Demand3
pub mod Plan
pub mod Mark
pub mod Text
