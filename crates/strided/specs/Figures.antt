-- "Figures to check": the marked ones, and some that were found with the Rust where no marked one tells a fault apart, in one table with one
-- theorem for all rows, by computation on the definitions.
-- Assumes nothing.
use Rattle.std.specs.Prelude.{◌≡◌, refl, Bool, true, false, ◌&&◌, List, [], ◌∷◌, ◌++◌, map, ℕ, zero, suc, ◌*◌, ◌^◌, eqb, ℤ, pos, negsuc, length, get_or, take, replicate, Option, None, Some, Ok, Err, Result}
use Rattle.std.specs.Int.Count.{count_leading_zeros}
use Rattle.strided.specs.declared.Machine.{Machine}
use Rattle.strided.specs.declared.Purpose.{Purpose}
use Rattle.strided.specs.declared.Purpose.TheVariants.{Pointwise, PointwiseInto, Fold}
use Rattle.strided.specs.declared.Plan.{Plan}
use Rattle.strided.specs.declared.Walk.{Walk}
use Rattle.strided.specs.declared.Told.{Told}
use Rattle.strided.specs.declared.Mark.{Mark}
use Rattle.strided.specs.declared.Mark.TheVariants.{No, Yes, Undecided}
use Rattle.strided.specs.declared.Block.{Block}
use Rattle.strided.specs.declared.Stepped.{Stepped}
use Rattle.strided.specs.declared.Several.{Several}
use Rattle.strided.specs.Base.{padded, unless, until, sum, product, least, every, some_of, seek, greatest}
use Rattle.strided.specs.Refusals.{number, layout_refused, planning_refused}
use Rattle.strided.specs.Machine.{allowed, machine_of, fixed_four}
use Rattle.strided.specs.Ranks.{smaller, rank_of, ranks, rank_table}
use Rattle.strided.specs.Weights.{packing_width, shift_of, term_of, size_at, rank_in, addend, weight_at, term_fits, sum_fits, axis_fits, try, cap_tries, width_tries, weights}
use Rattle.strided.specs.Order.{loop_order, fusing_order}
use Rattle.strided.specs.Fuse.{eq_z, plan_axes}
use Rattle.strided.specs.Index.{original_index, index_in_plan, told_original, told_plan}
use Rattle.strided.specs.Region.{region_of, region, byte_table}
use Rattle.strided.specs.Costs.{still, cost_of, costs}
use Rattle.strided.specs.Cut.{greatest_score, halving, lessening, halved, lessened, shrunk, least_rank, least_byte, keeps_first, ones, cutting}
use Rattle.strided.specs.Decline.{first_cut, insert_rising, rising, apart, width_of, passes, declined}
use Rattle.strided.specs.Fit.{reuse, counts, load_of, load, enters_of, enters, shortens, most_of, fit_from, fitted}
use Rattle.strided.specs.Plan.{grows, cut_blocks, plan_from, planned, the_plan}
use Rattle.strided.specs.Begin.{begin_refused, begun_at}
use Rattle.strided.specs.Step.{stepped, left}
use Rattle.strided.specs.Bulk.{SteppedMany, left_many, stepped_many}
use Rattle.strided.specs.Memory.{many_count}
use Rattle.strided.specs.Mark.{some_index, shared, insert_up, upwards, exceeds, rises, mark_of, mark_refused, marked, mark_number}
use Rattle.strided.specs.Digits.{digits_of}
use Rattle.strided.specs.Text.{OperandLine, Parsed, written, printed_plan, printed, text_refused, listed, printed_by}
use Rattle.strided.specs.declared.Refusal.{Refusal}

-- ---- the rows

pub data Figure : Type 0 where
  -- ranks of strides
  ranks_are : List ℤ → List ℕ → Figure
  -- weights: extents, operands, strides; operand 0 is the lead
  weights_are : List ℕ → ℕ → List ℤ → List ℕ → Figure
  -- the region of one operand: extents, strides, size
  region_is : List ℕ → List ℤ → ℕ → ℕ → Figure
  -- planning: extents, sizes, strides, purpose; the plan's extents, blocks, and operand 0's strides
  plan_is : List ℕ → List ℕ → List ℤ → Purpose → List ℕ → List ℕ → List ℤ → Figure
  -- planning refuses with this number
  refused_is : List ℕ → List ℕ → List ℤ → Purpose → ℕ → Figure
  -- the same with another machine record than the fixed four
  plan_on : Machine → List ℕ → List ℕ → List ℤ → Purpose → List ℕ → List ℕ → List ℤ → Figure
  refused_on : Machine → List ℕ → List ℕ → List ℤ → Purpose → ℕ → Figure
  -- the load of blocks on the axes of a plan: extents, sizes, strides, purpose; the blocks, and their load
  load_is : List ℕ → List ℕ → List ℤ → Purpose → List ℕ → ℕ → Figure
  -- index finding: extents, sizes, strides, purpose; the counters and the original index, told both ways
  index_is : List ℕ → List ℕ → List ℤ → Purpose → List ℕ → List ℕ → Figure
  -- a walk of one operand to its end: extents, blocks, strides, start; the offsets and the lengths of its blocks
  walk_is : List ℕ → List ℕ → List ℤ → ℤ → List ℤ → List ℕ → Figure
  -- many steps a call: a plan, starts, and for how many blocks each call has room; the blocks that each wrote, and the lengths and offsets in
  -- the slices of all calls, lent full of 9
  calls_are : Plan → List ℤ → List ℕ → List ℕ → List ℕ → List ℤ → Figure
  -- the repeat mark: extents, strides; and the number that it refuses with
  mark_is : List ℕ → List ℤ → Mark → Figure
  mark_refuses : List ℕ → List ℤ → ℕ → Figure
  -- what a text says, and the room lent: the text, and what is printed
  text_is : Parsed → ℕ → List ℕ → List ℕ → Figure

-- strides that are not negative
abbrev pub whole : List ℕ → List ℤ
whole ns = map pos ns

-- a plan of one operand
unfoldable pub plan_of : List ℕ → List ℕ → List ℤ → Plan
plan_of es bs ts = record { rank = length es; operands = 1; extents = padded 64 0 es; blocks = padded 64 0 bs; strides = padded 512 (pos 0) ts }

-- a text whose counts are those of its lines
abbrev pub saying : Purpose → List ℕ → List OperandLine → Parsed
saying u es ls = record { purpose = u; rank = length es; operands = length ls; extents = es; lines = ls }

-- the worked example of the text form
abbrev pub example : Parsed
example = saying Pointwise (2 ∷ 3 ∷ []) (record { size = 8; strides = whole (1 ∷ 2 ∷ []) } ∷ record { size = 8; strides = whole (3 ∷ 1 ∷ []) } ∷ [])

-- L,P,2,2,-
-- E,2,3
-- O,8,1,2
-- O,8,3,1
abbrev pub example_text : List ℕ
example_text =
    76 ∷ 44 ∷ 80 ∷ 44 ∷ 50 ∷ 44 ∷ 50 ∷ 44 ∷ 45 ∷ 10 ∷ 69 ∷ 44 ∷ 50 ∷ 44 ∷ 51 ∷ 10
    ∷ 79 ∷ 44 ∷ 56 ∷ 44 ∷ 49 ∷ 44 ∷ 50 ∷ 10 ∷ 79 ∷ 44 ∷ 56 ∷ 44 ∷ 51 ∷ 44 ∷ 49 ∷ 10 ∷ []

-- K,2
-- A,0,2,2,1,3
-- A,1,3,3,2,1
-- B,0,2,0,0
-- B,1,2,2,1
-- B,2,2,4,2
-- Z,3,6
abbrev pub example_out : List ℕ
example_out =
    75 ∷ 44 ∷ 50 ∷ 10
    ∷ 65 ∷ 44 ∷ 48 ∷ 44 ∷ 50 ∷ 44 ∷ 50 ∷ 44 ∷ 49 ∷ 44 ∷ 51 ∷ 10 ∷ 65 ∷ 44 ∷ 49 ∷ 44 ∷ 51 ∷ 44 ∷ 51 ∷ 44 ∷ 50 ∷ 44 ∷ 49 ∷ 10
    ∷ 66 ∷ 44 ∷ 48 ∷ 44 ∷ 50 ∷ 44 ∷ 48 ∷ 44 ∷ 48 ∷ 10 ∷ 66 ∷ 44 ∷ 49 ∷ 44 ∷ 50 ∷ 44 ∷ 50 ∷ 44 ∷ 49 ∷ 10 ∷ 66 ∷ 44 ∷ 50 ∷ 44 ∷ 50 ∷ 44 ∷ 52 ∷ 44 ∷ 50 ∷ 10
    ∷ 90 ∷ 44 ∷ 51 ∷ 44 ∷ 54 ∷ 10 ∷ []

unfoldable pub figures : List Figure
figures =
    -- 0 and 1: ranks and weights
    ranks_are (pos 0 ∷ pos 4 ∷ negsuc 1 ∷ pos 4 ∷ []) (1 ∷ 2 ∷ 1 ∷ 2 ∷ [])
    ∷ weights_are (4 ∷ 4 ∷ []) 2 (whole (1 ∷ 4 ∷ 4 ∷ 1 ∷ [])) (33 ∷ 12 ∷ [])
    -- 2 to 4: fused axes
    ∷ plan_is (2 ∷ 3 ∷ 4 ∷ []) (8 ∷ []) (whole (1 ∷ 2 ∷ 6 ∷ [])) Pointwise (24 ∷ []) (24 ∷ []) (whole (1 ∷ []))
    ∷ plan_is (3 ∷ 2 ∷ []) (8 ∷ []) (negsuc 0 ∷ negsuc 2 ∷ []) Pointwise (6 ∷ []) (6 ∷ []) (negsuc 0 ∷ [])
    ∷ plan_is (1 ∷ 1 ∷ []) (8 ∷ []) (whole (5 ∷ 7 ∷ [])) Pointwise (1 ∷ []) (1 ∷ []) (whole (5 ∷ []))
    -- 5 and 6: regions
    ∷ region_is (64 ∷ 64 ∷ []) (whole (1 ∷ 64 ∷ [])) 8 32768
    ∷ region_is (64 ∷ 65 ∷ []) (whole (1 ∷ 64 ∷ [])) 8 33280
    -- 7 to 9: blocks; a copy is fitted, a sum is not
    ∷ plan_is (64 ∷ 64 ∷ []) (8 ∷ 8 ∷ []) (whole (1 ∷ 64 ∷ 64 ∷ 1 ∷ [])) (PointwiseInto 0) (64 ∷ 64 ∷ []) (64 ∷ 32 ∷ []) (whole (1 ∷ 64 ∷ []))
    ∷ plan_is (64 ∷ 64 ∷ []) (8 ∷ 8 ∷ []) (whole (1 ∷ 64 ∷ 512 ∷ 1 ∷ [])) (PointwiseInto 0) (64 ∷ 64 ∷ []) (6 ∷ 32 ∷ []) (whole (1 ∷ 64 ∷ []))
    ∷ plan_is (64 ∷ 64 ∷ []) (8 ∷ 8 ∷ []) (whole (1 ∷ 64 ∷ 512 ∷ 1 ∷ [])) (Fold 0) (64 ∷ 64 ∷ []) (64 ∷ 32 ∷ []) (whole (1 ∷ 64 ∷ []))
    -- 10 to 12: walks, the last one at rank 9
    ∷ walk_is (5 ∷ []) (2 ∷ []) (whole (3 ∷ [])) (pos 10) (whole (10 ∷ 16 ∷ 22 ∷ [])) (2 ∷ 2 ∷ 1 ∷ [])
    ∷ walk_is (3 ∷ 3 ∷ []) (2 ∷ 2 ∷ []) (whole (1 ∷ 10 ∷ [])) (pos 0) (whole (0 ∷ 10 ∷ 2 ∷ 12 ∷ 20 ∷ 22 ∷ [])) (2 ∷ 2 ∷ 1 ∷ 1 ∷ 2 ∷ 1 ∷ [])
    ∷ walk_is (3 ∷ 3 ∷ replicate 7 1) (2 ∷ 2 ∷ replicate 7 1) (whole (1 ∷ 10 ∷ replicate 7 0)) (pos 0)
    (whole (0 ∷ 2 ∷ 10 ∷ 12 ∷ 20 ∷ 22 ∷ [])) (2 ∷ 1 ∷ 2 ∷ 1 ∷ 2 ∷ 1 ∷ [])
    -- 13 on are not marked: they were found with the Rust. One operand, strides 32, 1: 32, 32 stay and 33, 32 fuse
    ∷ plan_is (32 ∷ 32 ∷ []) (8 ∷ []) (whole (32 ∷ 1 ∷ [])) (Fold 0) (32 ∷ 32 ∷ []) (32 ∷ 32 ∷ []) (whole (32 ∷ 1 ∷ []))
    ∷ plan_is (33 ∷ 32 ∷ []) (8 ∷ []) (whole (32 ∷ 1 ∷ [])) (Fold 0) (1056 ∷ []) (1056 ∷ []) (whole (1 ∷ []))
    -- 15: ranks are taken once, and not afresh on the tail
    ∷ plan_is (2 ∷ 16 ∷ 33 ∷ []) (16 ∷ 0 ∷ []) (whole (2 ∷ 64 ∷ 100 ∷ 5 ∷ 2 ∷ 8 ∷ [])) (Fold 0)
    (2 ∷ 16 ∷ 33 ∷ []) (2 ∷ 16 ∷ 31 ∷ []) (whole (2 ∷ 64 ∷ 100 ∷ []))
    -- 16: the last axis wins ties of the score
    ∷ plan_is (4 ∷ 4 ∷ 5 ∷ 16 ∷ []) (64 ∷ 16 ∷ []) (whole (3 ∷ 4 ∷ 1 ∷ 4 ∷ 32 ∷ 5 ∷ 5 ∷ 4 ∷ [])) (PointwiseInto 1)
    (16 ∷ 5 ∷ 4 ∷ 4 ∷ []) (4 ∷ 5 ∷ 3 ∷ 4 ∷ []) (whole (4 ∷ 1 ∷ 4 ∷ 3 ∷ []))
    -- 17: the region of the tail, not of all axes
    ∷ plan_is (16 ∷ 8 ∷ 65 ∷ []) (64 ∷ 64 ∷ []) (whole (2048 ∷ 128 ∷ 2048 ∷ 32 ∷ 5 ∷ 2048 ∷ [])) Pointwise
    (8 ∷ 16 ∷ 65 ∷ []) (8 ∷ 16 ∷ 65 ∷ []) (whole (128 ∷ 2048 ∷ 2048 ∷ []))
    -- 18: halving rounds up
    ∷ plan_is (33 ∷ 8 ∷ 8 ∷ []) (1 ∷ 16 ∷ []) (whole (3 ∷ 5 ∷ 128 ∷ 100 ∷ 32 ∷ 5 ∷ [])) Pointwise
    (33 ∷ 8 ∷ 8 ∷ []) (9 ∷ 8 ∷ 7 ∷ []) (whole (3 ∷ 5 ∷ 128 ∷ []))
    -- 19: an operand of size 0 has ranks all 1
    ∷ plan_is (16 ∷ 8 ∷ 16 ∷ []) (0 ∷ 16 ∷ []) (whole (8 ∷ 4 ∷ 1 ∷ 4 ∷ 3 ∷ 64 ∷ [])) (PointwiseInto 1)
    (8 ∷ 16 ∷ 16 ∷ []) (8 ∷ 16 ∷ 16 ∷ []) (whole (4 ∷ 8 ∷ 1 ∷ []))
    -- 20 and 21: tiles declined; not where the first cut axis is axis 0
    ∷ plan_is (128 ∷ 64 ∷ 16 ∷ []) (4 ∷ 2 ∷ 2 ∷ []) (whole (1 ∷ 2064 ∷ 128 ∷ 1 ∷ 128 ∷ 8192 ∷ 1 ∷ 128 ∷ 8192 ∷ [])) Pointwise
    (128 ∷ 16 ∷ 64 ∷ []) (128 ∷ 16 ∷ 64 ∷ []) (whole (1 ∷ 128 ∷ 2064 ∷ []))
    ∷ plan_is (32 ∷ 64 ∷ []) (0 ∷ 64 ∷ []) (whole (100 ∷ 8 ∷ 2 ∷ 64 ∷ [])) (PointwiseInto 0)
    (64 ∷ 32 ∷ []) (15 ∷ 32 ∷ []) (whole (8 ∷ 100 ∷ []))
    -- 22 to 24: the fit: exactly two operands, from the outermost axis, and not where the chosen stride is 0
    ∷ plan_is (16 ∷ 33 ∷ 5 ∷ []) (16 ∷ []) (whole (4 ∷ 512 ∷ 0 ∷ [])) (PointwiseInto 0)
    (16 ∷ 33 ∷ 5 ∷ []) (16 ∷ 33 ∷ 5 ∷ []) (whole (4 ∷ 512 ∷ 0 ∷ []))
    ∷ plan_is (64 ∷ 5 ∷ 2 ∷ 4 ∷ []) (64 ∷ 8 ∷ []) (whole (256 ∷ 2 ∷ 0 ∷ 128 ∷ 4 ∷ 128 ∷ 5 ∷ 2 ∷ [])) (PointwiseInto 1)
    (4 ∷ 64 ∷ 5 ∷ 2 ∷ []) (4 ∷ 1 ∷ 5 ∷ 2 ∷ []) (whole (128 ∷ 256 ∷ 2 ∷ 0 ∷ []))
    ∷ plan_is (128 ∷ 64 ∷ 8 ∷ 4 ∷ []) (64 ∷ 4 ∷ []) (whole (0 ∷ 16 ∷ 1024 ∷ 128 ∷ 0 ∷ 512 ∷ 0 ∷ 4096 ∷ [])) (PointwiseInto 1)
    (64 ∷ 4 ∷ 8 ∷ 128 ∷ []) (64 ∷ 1 ∷ 8 ∷ 128 ∷ []) (whole (16 ∷ 128 ∷ 1024 ∷ 0 ∷ []))
    -- 25 and 26: the refusal table's own cases of rows 5 and 6; 27: that of row 7 has a plan; 28: a zero extent passes them
    ∷ refused_is (2 ^ 32 ∷ 2 ^ 32 ∷ []) (1 ∷ []) (whole (0 ∷ 0 ∷ [])) Pointwise 5
    ∷ refused_is (3 ∷ []) (1 ∷ []) (whole (2 ^ 62 ∷ [])) Pointwise 6
    ∷ plan_is (2 ∷ []) (8 ∷ []) (whole (2 ^ 60 ∷ [])) Pointwise (2 ∷ []) (2 ∷ []) (whole (2 ^ 60 ∷ []))
    ∷ plan_is (0 ∷ 3 ∷ []) (8 ∷ []) (whole (1 ∷ 2 ^ 62 ∷ [])) Pointwise (0 ∷ 3 ∷ []) (0 ∷ 3 ∷ []) (whole (1 ∷ 2 ^ 62 ∷ []))
    -- 29 and 30: on a fused axis the one that came first in the order of fusing is quickest: as given, and in loop order
    ∷ index_is (2 ∷ 3 ∷ 4 ∷ []) (8 ∷ []) (whole (1 ∷ 2 ∷ 6 ∷ [])) Pointwise (11 ∷ []) (1 ∷ 2 ∷ 1 ∷ [])
    ∷ index_is (33 ∷ 32 ∷ []) (8 ∷ []) (whole (32 ∷ 1 ∷ [])) (Fold 0) (70 ∷ []) (2 ∷ 6 ∷ [])
    -- 31 to 33: the repeat mark
    ∷ mark_is (3 ∷ 2 ∷ []) (whole (1 ∷ 0 ∷ [])) Yes
    ∷ mark_is (3 ∷ 1 ∷ []) (whole (1 ∷ 0 ∷ [])) No
    ∷ mark_is (0 ∷ 2 ∷ []) (whole (1 ∷ 0 ∷ [])) No
    -- 34 and 35: the text's worked example, in a room that is just enough, and in one of a byte less
    ∷ text_is example 64 example_text example_out
    ∷ text_is example 63 example_text (82 ∷ 44 ∷ 49 ∷ 52 ∷ 10 ∷ [])
    -- 36: rank 0, E and O,8 and nothing else; K,0 B,0,1,0 Z,1,1
    ∷ text_is (saying Pointwise [] (record { size = 8; strides = [] } ∷ [])) 99
    (76 ∷ 44 ∷ 80 ∷ 44 ∷ 48 ∷ 44 ∷ 49 ∷ 44 ∷ 45 ∷ 10 ∷ 69 ∷ 10 ∷ 79 ∷ 44 ∷ 56 ∷ 10 ∷ [])
    (75 ∷ 44 ∷ 48 ∷ 10 ∷ 66 ∷ 44 ∷ 48 ∷ 44 ∷ 49 ∷ 44 ∷ 48 ∷ 10 ∷ 90 ∷ 44 ∷ 49 ∷ 44 ∷ 49 ∷ 10 ∷ [])
    -- 37: a zero extent and a stride below 0: K,1 A,0,0,0,-3 Z,0,0
    ∷ text_is (saying (Fold 0) (0 ∷ []) (record { size = 1; strides = negsuc 2 ∷ [] } ∷ [])) 99
    (76 ∷ 44 ∷ 70 ∷ 44 ∷ 49 ∷ 44 ∷ 49 ∷ 44 ∷ 48 ∷ 10 ∷ 69 ∷ 44 ∷ 48 ∷ 10 ∷ 79 ∷ 44 ∷ 49 ∷ 44 ∷ 45 ∷ 51 ∷ 10 ∷ [])
    (75 ∷ 44 ∷ 49 ∷ 10 ∷ 65 ∷ 44 ∷ 48 ∷ 44 ∷ 48 ∷ 44 ∷ 48 ∷ 44 ∷ 45 ∷ 51 ∷ 10 ∷ 90 ∷ 44 ∷ 48 ∷ 44 ∷ 48 ∷ 10 ∷ [])
    -- 38: a total of 1,048,577 is refused with 13, and with 6 where row 6 applies too (39)
    ∷ text_is (saying Pointwise (1048577 ∷ []) (record { size = 1; strides = pos 1 ∷ [] } ∷ [])) 99
    (76 ∷ 44 ∷ 80 ∷ 44 ∷ 49 ∷ 44 ∷ 49 ∷ 44 ∷ 45 ∷ 10 ∷ 69 ∷ 44 ∷ 49 ∷ 48 ∷ 52 ∷ 56 ∷ 53 ∷ 55 ∷ 55 ∷ 10 ∷ 79 ∷ 44 ∷ 49 ∷ 44 ∷ 49 ∷ 10 ∷ [])
    (82 ∷ 44 ∷ 49 ∷ 51 ∷ 10 ∷ [])
    ∷ text_is (saying Pointwise (2 ^ 62 ∷ []) (record { size = 2; strides = pos 3 ∷ [] } ∷ [])) 99
    (76 ∷ 44 ∷ 80 ∷ 44 ∷ 49 ∷ 44 ∷ 49 ∷ 44 ∷ 45 ∷ 10
    ∷ 69 ∷ 44 ∷ 52 ∷ 54 ∷ 49 ∷ 49 ∷ 54 ∷ 56 ∷ 54 ∷ 48 ∷ 49 ∷ 56 ∷ 52 ∷ 50 ∷ 55 ∷ 51 ∷ 56 ∷ 55 ∷ 57 ∷ 48 ∷ 52 ∷ 10 ∷ 79 ∷ 44 ∷ 50 ∷ 44 ∷ 51 ∷ 10 ∷ [])
    (82 ∷ 44 ∷ 54 ∷ 10 ∷ [])
    -- 40 to 42: walks 10 and 11 in one call and in three, the last of which finds the walk ended; and the text's example in two, two operands a block
    ∷ calls_are (plan_of (5 ∷ []) (2 ∷ []) (whole (3 ∷ []))) (pos 10 ∷ []) (4 ∷ []) (3 ∷ []) (2 ∷ 2 ∷ 1 ∷ 9 ∷ []) (whole (10 ∷ 16 ∷ 22 ∷ 9 ∷ []))
    ∷ calls_are (plan_of (3 ∷ 3 ∷ []) (2 ∷ 2 ∷ []) (whole (1 ∷ 10 ∷ []))) (pos 0 ∷ []) (4 ∷ 3 ∷ 1 ∷ []) (4 ∷ 2 ∷ 0 ∷ [])
    (2 ∷ 2 ∷ 1 ∷ 1 ∷ 2 ∷ 1 ∷ 9 ∷ 9 ∷ []) (whole (0 ∷ 10 ∷ 2 ∷ 12 ∷ 20 ∷ 22 ∷ 9 ∷ 9 ∷ []))
    ∷ calls_are (the_plan fixed_four (2 ∷ 3 ∷ []) (8 ∷ 8 ∷ []) (whole (1 ∷ 2 ∷ 3 ∷ 1 ∷ [])) Pointwise) (whole (0 ∷ 0 ∷ [])) (2 ∷ 2 ∷ []) (2 ∷ 1 ∷ [])
    (2 ∷ 2 ∷ 2 ∷ 9 ∷ []) (whole (0 ∷ 0 ∷ 2 ∷ 1 ∷ 4 ∷ 2 ∷ 9 ∷ 9 ∷ []))
    -- the plan of that example, which planning answers
    ∷ plan_is (2 ∷ 3 ∷ []) (8 ∷ 8 ∷ []) (whole (1 ∷ 2 ∷ 3 ∷ 1 ∷ [])) Pointwise (2 ∷ 3 ∷ []) (2 ∷ 3 ∷ []) (whole (1 ∷ 2 ∷ []))
    -- 43 to 45: row 8 with other records: each of the four is read; in a cache that holds it all nothing is cut
    ∷ plan_on (machine_of 32 4096 4096 6) (64 ∷ 64 ∷ []) (8 ∷ 8 ∷ []) (whole (1 ∷ 64 ∷ 512 ∷ 1 ∷ [])) (PointwiseInto 0) (64 ∷ 64 ∷ []) (6 ∷ 16 ∷ []) (whole (1 ∷ 64 ∷ []))
    ∷ plan_on (machine_of 32 16384 32 1) (64 ∷ 64 ∷ []) (8 ∷ 8 ∷ []) (whole (1 ∷ 64 ∷ 64 ∷ 1 ∷ [])) (PointwiseInto 0) (64 ∷ 64 ∷ []) (1 ∷ 32 ∷ []) (whole (1 ∷ 64 ∷ []))
    ∷ plan_on (machine_of 256 1048576 65536 16) (64 ∷ 64 ∷ []) (8 ∷ 8 ∷ []) (whole (1 ∷ 64 ∷ 512 ∷ 1 ∷ [])) (PointwiseInto 0) (64 ∷ 64 ∷ []) (64 ∷ 64 ∷ []) (whole (1 ∷ 64 ∷ []))
    -- 46: row 18 in half the cache: halving stops below twice the record's
    ∷ plan_on (machine_of 64 16384 4096 6) (33 ∷ 8 ∷ 8 ∷ []) (1 ∷ 16 ∷ []) (whole (3 ∷ 5 ∷ 128 ∷ 100 ∷ 32 ∷ 5 ∷ [])) Pointwise
    (33 ∷ 8 ∷ 8 ∷ []) (9 ∷ 7 ∷ 4 ∷ []) (whole (3 ∷ 5 ∷ 128 ∷ []))
    -- 47 to 52: records outside the bounds, at a zero extent too; 24 after 4 and before 5
    ∷ refused_on (machine_of 48 32768 4080 6) (2 ∷ []) (8 ∷ []) (whole (1 ∷ [])) Pointwise 24
    ∷ refused_on (machine_of 64 4095 64 6) (0 ∷ []) (8 ∷ []) (whole (1 ∷ [])) Pointwise 24
    ∷ refused_on (machine_of 64 32768 96 6) (2 ∷ []) (8 ∷ []) (whole (1 ∷ [])) Pointwise 24
    ∷ refused_on (machine_of 64 32768 4096 17) (2 ∷ []) (8 ∷ []) (whole (1 ∷ [])) Pointwise 24
    ∷ refused_on (machine_of 64 32768 4096 0) (2 ∷ []) (8 ∷ []) (whole (1 ∷ [])) (Fold 1) 4
    ∷ refused_on (machine_of 64 32768 4096 0) (2 ^ 32 ∷ 2 ^ 32 ∷ []) (1 ∷ []) (whole (0 ∷ 0 ∷ [])) Pointwise 24
    -- 53 to 57: equal weights, from the words of ask 9. Axis 2 weighs most; the other three weigh the same, and of those of extent 9 the lower
    -- comes first. Two operands that lie across each other, summed into one cell: the longer axis runs inside, but up to a total of 1,024 the
    -- axes are as given. Where nothing moves, the axis of extent 1 comes last, the other two fuse, and the longer one is quickest
    ∷ plan_is (3 ∷ 9 ∷ 5 ∷ 9 ∷ []) (8 ∷ []) (pos 2 ∷ pos 2 ∷ pos 1 ∷ negsuc 1 ∷ []) Pointwise
    (5 ∷ 9 ∷ 9 ∷ 3 ∷ []) (5 ∷ 9 ∷ 9 ∷ 3 ∷ []) (pos 1 ∷ pos 2 ∷ negsuc 1 ∷ pos 2 ∷ [])
    ∷ plan_is (4 ∷ 257 ∷ []) (8 ∷ 8 ∷ 8 ∷ []) (whole (1 ∷ 4 ∷ 257 ∷ 1 ∷ 0 ∷ 0 ∷ [])) (Fold 2) (257 ∷ 4 ∷ []) (257 ∷ 4 ∷ []) (whole (4 ∷ 1 ∷ []))
    ∷ plan_is (4 ∷ 256 ∷ []) (8 ∷ 8 ∷ 8 ∷ []) (whole (1 ∷ 4 ∷ 256 ∷ 1 ∷ 0 ∷ 0 ∷ [])) (Fold 2) (4 ∷ 256 ∷ []) (4 ∷ 256 ∷ []) (whole (1 ∷ 4 ∷ []))
    ∷ plan_is (2 ∷ 1 ∷ 600 ∷ []) (8 ∷ []) (whole (0 ∷ 5 ∷ 0 ∷ [])) Pointwise (1200 ∷ []) (1200 ∷ []) (whole (0 ∷ []))
    ∷ index_is (2 ∷ 1 ∷ 600 ∷ []) (8 ∷ []) (whole (0 ∷ 5 ∷ 0 ∷ [])) Pointwise (700 ∷ []) (1 ∷ 0 ∷ 100 ∷ [])
    -- 58 to 63: an axis that nobody moves along stays whole; of any length; for a sum, and for a copy whose other blocks are fitted. An axis along
    -- which one operand does not move is cut, and so is one along which only an operand of size 0 moves
    ∷ plan_is (16 ∷ 16 ∷ 17 ∷ []) (16 ∷ 4 ∷ 16 ∷ []) (whole (0 ∷ 0 ∷ 0 ∷ 0 ∷ 1024 ∷ 64 ∷ 0 ∷ 64 ∷ 100 ∷ [])) Pointwise
    (17 ∷ 16 ∷ 16 ∷ []) (16 ∷ 15 ∷ 16 ∷ []) (whole (0 ∷ 0 ∷ 0 ∷ []))
    ∷ plan_is (2 ∷ 600 ∷ 2 ^ 40 ∷ []) (8 ∷ []) (whole (1 ∷ 1000 ∷ 0 ∷ [])) Pointwise
    (2 ∷ 600 ∷ 2 ^ 40 ∷ []) (2 ∷ 512 ∷ 2 ^ 40 ∷ []) (whole (1 ∷ 1000 ∷ 0 ∷ []))
    ∷ plan_is (33 ∷ 16 ∷ 17 ∷ []) (64 ∷ 64 ∷ []) (whole (0 ∷ 512 ∷ 1 ∷ 0 ∷ 1 ∷ 64 ∷ [])) (Fold 0)
    (17 ∷ 16 ∷ 33 ∷ []) (16 ∷ 16 ∷ 33 ∷ []) (whole (1 ∷ 512 ∷ 0 ∷ []))
    ∷ plan_is (33 ∷ 16 ∷ 17 ∷ []) (64 ∷ 64 ∷ []) (whole (0 ∷ 512 ∷ 1 ∷ 0 ∷ 1 ∷ 64 ∷ [])) (PointwiseInto 0)
    (17 ∷ 16 ∷ 33 ∷ []) (5 ∷ 1 ∷ 33 ∷ []) (whole (1 ∷ 512 ∷ 0 ∷ []))
    ∷ plan_is (32 ∷ 33 ∷ []) (64 ∷ 1 ∷ 16 ∷ []) (whole (0 ∷ 0 ∷ 32 ∷ 2 ∷ 16 ∷ 512 ∷ [])) Pointwise
    (33 ∷ 32 ∷ []) (17 ∷ 29 ∷ []) (whole (0 ∷ 0 ∷ []))
    ∷ plan_is (16 ∷ 16 ∷ 32 ∷ []) (0 ∷ 64 ∷ 8 ∷ []) (whole (0 ∷ 1 ∷ 3 ∷ 5 ∷ 32 ∷ 0 ∷ 8 ∷ 8 ∷ 0 ∷ [])) Pointwise
    (16 ∷ 32 ∷ 16 ∷ []) (15 ∷ 30 ∷ 16 ∷ []) (whole (1 ∷ 3 ∷ 0 ∷ []))
    -- 64 to 66: how good the fit is (ask 14). Rows 9 and 8: the load of the model's blocks, of the fitted ones, and of one more
    ∷ load_is (64 ∷ 64 ∷ []) (8 ∷ 8 ∷ []) (whole (1 ∷ 64 ∷ 512 ∷ 1 ∷ [])) (Fold 0) (64 ∷ 32 ∷ []) 64
    ∷ load_is (64 ∷ 64 ∷ []) (8 ∷ 8 ∷ []) (whole (1 ∷ 64 ∷ 512 ∷ 1 ∷ [])) (Fold 0) (6 ∷ 32 ∷ []) 6
    ∷ load_is (64 ∷ 64 ∷ []) (8 ∷ 8 ∷ []) (whole (1 ∷ 64 ∷ 512 ∷ 1 ∷ [])) (Fold 0) (7 ∷ 32 ∷ []) 7
    -- 67 to 70: the load stays above 6, and the one axis that may be shortened has block 1; on axis 1 the chosen stride is 0
    ∷ plan_is (16 ∷ 32 ∷ 3 ∷ []) (8 ∷ 8 ∷ []) (whole (64 ∷ 512 ∷ 0 ∷ 2048 ∷ 0 ∷ 0 ∷ [])) (Fold 1) (16 ∷ 32 ∷ 3 ∷ []) (16 ∷ 32 ∷ 3 ∷ []) (whole (64 ∷ 512 ∷ 0 ∷ []))
    ∷ plan_is (16 ∷ 32 ∷ 3 ∷ []) (8 ∷ 8 ∷ []) (whole (64 ∷ 512 ∷ 0 ∷ 2048 ∷ 0 ∷ 0 ∷ [])) (PointwiseInto 1) (16 ∷ 32 ∷ 3 ∷ []) (1 ∷ 32 ∷ 3 ∷ []) (whole (64 ∷ 512 ∷ 0 ∷ []))
    ∷ load_is (16 ∷ 32 ∷ 3 ∷ []) (8 ∷ 8 ∷ []) (whole (64 ∷ 512 ∷ 0 ∷ 2048 ∷ 0 ∷ 0 ∷ [])) (Fold 1) (16 ∷ 32 ∷ 3 ∷ []) 48
    ∷ load_is (16 ∷ 32 ∷ 3 ∷ []) (8 ∷ 8 ∷ []) (whole (64 ∷ 512 ∷ 0 ∷ 2048 ∷ 0 ∷ 0 ∷ [])) (Fold 1) (1 ∷ 32 ∷ 3 ∷ []) 33
    -- 71 to 75: axes 2 and 1 are shortened, one after the other. One more on axis 2 is too many with axis 1 as in the model, and would fit
    -- with axis 1 as fitted
    ∷ plan_is (2 ∷ 33 ∷ 4 ∷ 5 ∷ []) (8 ∷ 16 ∷ []) (whole (2048 ∷ 2048 ∷ 0 ∷ 4096 ∷ 1024 ∷ 2048 ∷ 2048 ∷ 0 ∷ [])) (Fold 1)
    (2 ∷ 33 ∷ 4 ∷ 5 ∷ []) (2 ∷ 33 ∷ 4 ∷ 5 ∷ []) (whole (2048 ∷ 2048 ∷ 0 ∷ 4096 ∷ []))
    ∷ plan_is (2 ∷ 33 ∷ 4 ∷ 5 ∷ []) (8 ∷ 16 ∷ []) (whole (2048 ∷ 2048 ∷ 0 ∷ 4096 ∷ 1024 ∷ 2048 ∷ 2048 ∷ 0 ∷ [])) (PointwiseInto 1)
    (2 ∷ 33 ∷ 4 ∷ 5 ∷ []) (2 ∷ 1 ∷ 1 ∷ 5 ∷ []) (whole (2048 ∷ 2048 ∷ 0 ∷ 4096 ∷ []))
    ∷ load_is (2 ∷ 33 ∷ 4 ∷ 5 ∷ []) (8 ∷ 16 ∷ []) (whole (2048 ∷ 2048 ∷ 0 ∷ 4096 ∷ 1024 ∷ 2048 ∷ 2048 ∷ 0 ∷ [])) (Fold 1) (2 ∷ 1 ∷ 1 ∷ 5 ∷ []) 4
    ∷ load_is (2 ∷ 33 ∷ 4 ∷ 5 ∷ []) (8 ∷ 16 ∷ []) (whole (2048 ∷ 2048 ∷ 0 ∷ 4096 ∷ 1024 ∷ 2048 ∷ 2048 ∷ 0 ∷ [])) (Fold 1) (2 ∷ 33 ∷ 2 ∷ 5 ∷ []) 198
    ∷ load_is (2 ∷ 33 ∷ 4 ∷ 5 ∷ []) (8 ∷ 16 ∷ []) (whole (2048 ∷ 2048 ∷ 0 ∷ 4096 ∷ 1024 ∷ 2048 ∷ 2048 ∷ 0 ∷ [])) (Fold 1) (2 ∷ 1 ∷ 2 ∷ 5 ∷ []) 6
    -- 76 and 77: up to a total of 1,024 nothing is fitted, and the load is what it is
    ∷ plan_is (16 ∷ 16 ∷ []) (8 ∷ 8 ∷ []) (whole (1 ∷ 16 ∷ 512 ∷ 1 ∷ [])) (PointwiseInto 0) (16 ∷ 16 ∷ []) (16 ∷ 16 ∷ []) (whole (1 ∷ 16 ∷ []))
    ∷ load_is (16 ∷ 16 ∷ []) (8 ∷ 8 ∷ []) (whole (1 ∷ 16 ∷ 512 ∷ 1 ∷ [])) (Fold 0) (16 ∷ 16 ∷ []) 16
    -- 78 and 79: byte strides of two words, ask 6: 2 ^ 64 is not below a line; and the remainder by a way that divides no power of two
    ∷ plan_is (64 ∷ 33 ∷ []) (1 ∷ 2 ^ 40 ∷ []) (whole (2 ∷ 1 ∷ 1 ∷ 2 ^ 24 ∷ [])) (PointwiseInto 0) (33 ∷ 64 ∷ []) (17 ∷ 30 ∷ []) (whole (1 ∷ 2 ∷ []))
    ∷ plan_on (machine_of 32 8192 96 1) (31 ∷ 64 ∷ 16 ∷ []) (63 ∷ 1 ∷ []) (whole (1 ∷ 0 ∷ 576460752303423424 ∷ 2 ∷ 64 ∷ 1 ∷ [])) (PointwiseInto 0)
    (31 ∷ 16 ∷ 64 ∷ []) (14 ∷ 1 ∷ 28 ∷ []) (whole (1 ∷ 576460752303423424 ∷ 0 ∷ []))
    -- 80 to 84: the layout of ask 2, which folds onto itself; one that only looks so; signs do not matter; a layout without an axis; a zero
    -- extent beside a total that would be decided quickly
    ∷ mark_is (3 ∷ 3 ∷ []) (whole (1 ∷ 1 ∷ [])) Yes
    ∷ mark_is (3 ∷ 2 ∷ []) (whole (2 ∷ 3 ∷ [])) No
    ∷ mark_is (3 ∷ 3 ∷ []) (pos 1 ∷ negsuc 1 ∷ []) Yes
    ∷ mark_is [] [] No
    ∷ mark_is (5000 ∷ 0 ∷ []) (whole (0 ∷ 1 ∷ [])) No
    -- 85 to 90: totals above 4,096. A zero stride, at an extent of 1 too; a size that exceeds the reach before it, one that equals it, and one
    -- that would exceed it by its sign; a layout that does not fold, and is not decided
    ∷ mark_is (4097 ∷ 2 ∷ []) (whole (1 ∷ 0 ∷ [])) Yes
    ∷ mark_is (4097 ∷ 1 ∷ []) (whole (1 ∷ 0 ∷ [])) No
    ∷ mark_is (2 ∷ 4097 ∷ []) (negsuc 4096 ∷ pos 1 ∷ []) No
    ∷ mark_is (2 ∷ 4097 ∷ []) (negsuc 4095 ∷ pos 1 ∷ []) Undecided
    ∷ mark_is (65 ∷ 65 ∷ []) (pos 1 ∷ negsuc 0 ∷ []) Undecided
    ∷ mark_is (3 ∷ 2 ∷ 4097 ∷ []) (whole (2 ∷ 3 ∷ 8 ∷ [])) Undecided
    -- 91 to 93: rows 5 and 6 hold for the mark, and 6 passes at a zero extent
    ∷ mark_refuses (2 ^ 32 ∷ 2 ^ 32 ∷ []) (whole (1 ∷ 0 ∷ [])) 5
    ∷ mark_refuses (3 ∷ []) (whole (2 ^ 62 ∷ [])) 6
    ∷ mark_is (3 ∷ 0 ∷ []) (whole (2 ^ 62 ∷ 1 ∷ [])) No
    ∷ []

-- ---- what the definitions give

abbrev pub same : List ℕ → List ℕ → Bool
same [] [] = true
same [] (y ∷ ys) = false
same (x ∷ xs) [] = false
same (x ∷ xs) (y ∷ ys) = eqb x y && same xs ys

abbrev pub same_z : List ℤ → List ℤ → Bool
same_z [] [] = true
same_z [] (y ∷ ys) = false
same_z (x ∷ xs) [] = false
same_z (x ∷ xs) (y ∷ ys) = eq_z x y && same_z xs ys

-- whether something is refused with this number
abbrev pub refuses : {A : Type 0} → Result A Refusal → ℕ → Bool
refuses (Ok value) n = false
refuses (Err r) n = eqb (number r) n

-- the blocks of a walk up to its end; a number above 0 is where a step was refused
pub record Seen : Type 0 where
  pub offsets : List ℤ
  pub lengths : List ℕ
  pub fault : ℕ

abbrev pub shown_block : Option Block → Seen → Seen
shown_block None rest = record { offsets = []; lengths = []; fault = 0 }
shown_block (Some b) rest = record { offsets = get_or b.offsets 0 (pos 0) ∷ rest.offsets; lengths = b.length ∷ rest.lengths; fault = rest.fault }

abbrev pub shown : Result Stepped Refusal → Seen → Seen
shown (Ok s) rest = shown_block s.block rest
shown (Err r) rest = record { offsets = []; lengths = []; fault = number r }

unfoldable pub seen : ℕ → Plan → Walk → Seen
seen zero p w = record { offsets = []; lengths = []; fault = 15 }
seen (suc f) p w = let s : Result Stepped Refusal = stepped p w in shown s (seen f p (left s w))

-- what calls with room for so many blocks each leave
pub record Calls : Type 0 where
  pub counts : List ℕ
  pub lengths : List ℕ
  pub offsets : List ℤ

-- a refused call has no count, so that its row is not right
abbrev pub count_in : Result Several Refusal → List ℕ
count_in (Ok s) = many_count s.blocks ∷ []
count_in (Err r) = []

unfoldable pub called : List ℕ → Plan → Walk → Calls
called [] p w = record { counts = []; lengths = []; offsets = [] }
called (n ∷ ns) p w =
    let a : SteppedMany = stepped_many p w (replicate n 9) (replicate (n * p.operands) (pos 9)) in
    let later : Calls = called ns p (left_many a.several w) in
    record { counts = count_in a.several ++ later.counts; lengths = a.lengths ++ later.lengths; offsets = a.offsets ++ later.offsets }

-- what planning answers: this plan, or this number
abbrev pub plan_right : Result Plan Refusal → ℕ → List ℕ → List ℕ → List ℤ → Bool
plan_right (Err r) operands fs bs ts = false
plan_right (Ok p) operands fs bs ts =
    eqb p.rank (length fs) && (eqb p.operands operands
    && (same p.extents (padded 64 0 fs) && (same p.blocks (padded 64 0 bs) && same_z (take 64 p.strides) (padded 64 (pos 0) ts))))

-- what a layout's sizes and its plan load, by these blocks
abbrev pub load_right : List ℕ → Result Plan Refusal → List ℕ → ℕ → Bool
load_right sizes (Err r) bs n = false
load_right sizes (Ok p) bs n = eqb (load fixed_four (byte_table sizes p.strides) sizes p.rank bs) n

-- what index finding tells: this index
abbrev pub told_right : Result Told Refusal → List ℕ → Bool
told_right (Err r) x = false
told_right (Ok t) x = eqb t.count (length x) && same t.index (padded 64 0 x)

-- what a walk gives that begins so
abbrev pub walk_right : Plan → Result Walk Refusal → List ℤ → List ℕ → Bool
walk_right p (Err r) zs ns = false
walk_right p (Ok w) zs ns = let s : Seen = seen 100 p w in same_z s.offsets zs && (same s.lengths ns && eqb s.fault 0)

abbrev pub calls_right : Plan → Result Walk Refusal → List ℕ → List ℕ → List ℕ → List ℤ → Bool
calls_right p (Err r) rooms counts ns zs = false
calls_right p (Ok w) rooms counts ns zs =
    let c : Calls = called rooms p w in same c.counts counts && (same c.lengths ns && same_z c.offsets zs)

-- what the mark is
abbrev pub mark_right : Result Mark Refusal → Mark → Bool
mark_right (Err r) m = false
mark_right (Ok n) m = eqb (mark_number n) (mark_number m)

-- a row is right
unfoldable pub right : Figure → Bool
right (ranks_are ss rs) = same (ranks ss) rs
right (weights_are es operands ss ws) = same (weights es operands ss 0) ws
right (region_is es ss size r) = eqb (region fixed_four (byte_table (size ∷ []) ss) 1 es 0 (length es)) r
right (plan_is es sizes ss u fs bs ts) = plan_right (planned fixed_four es sizes ss u) (length sizes) fs bs ts
right (refused_is es sizes ss u n) = refuses (planned fixed_four es sizes ss u) n
right (plan_on mc es sizes ss u fs bs ts) = plan_right (planned mc es sizes ss u) (length sizes) fs bs ts
right (refused_on mc es sizes ss u n) = refuses (planned mc es sizes ss u) n
right (load_is es sizes ss u bs n) = load_right sizes (planned fixed_four es sizes ss u) bs n
right (index_is es sizes ss u cs x) = told_right (told_original es sizes ss u cs) x && told_right (told_plan es sizes ss u x) cs
right (walk_is es bs ts z zs ns) = walk_right (plan_of es bs ts) (begun_at (plan_of es bs ts) (z ∷ [])) zs ns
right (calls_are p starts rooms counts ns zs) = calls_right p (begun_at p starts) rooms counts ns zs
right (mark_is es ts m) = mark_right (marked es ts) m
right (mark_refuses es ts n) = refuses (marked es ts) n
right (text_is p room t out) = same (written p) t && same (printed_by (listed p (replicate room 0))) out

-- the numbers of the rows that are not right, from row n on
unfoldable pub wrong : ℕ → List Figure → List ℕ
wrong n [] = []
wrong n (f ∷ fs) = unless (right f) n (wrong (suc n) fs)

-- ALL ROWS ARE RIGHT
pub figures-right : wrong 0 figures ≡ []
unfolding figures plan_of seen called right wrong until sum product least every some_of seek greatest allowed layout_refused planning_refused smaller rank_of ranks rank_table count_leading_zeros packing_width shift_of term_of size_at rank_in addend weight_at term_fits sum_fits axis_fits try cap_tries width_tries weights loop_order fusing_order plan_axes original_index index_in_plan told_original told_plan region_of region still cost_of costs greatest_score halving lessening halved lessened shrunk least_rank least_byte keeps_first ones cutting first_cut insert_rising rising apart width_of passes declined reuse counts load_of load enters_of enters shortens most_of fit_from fitted grows cut_blocks plan_from planned begin_refused begun_at stepped stepped_many some_index shared insert_up upwards exceeds rises mark_of mark_refused marked digits_of printed_plan printed text_refused listed
figures-right = refl
