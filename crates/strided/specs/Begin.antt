-- A walk's beginning: "a walk's beginning checks rows 1, 2, 5, 6, 8, 9".
-- Assumes nothing.
use Rattle.std.specs.Prelude.{List, [], ◌∷◌, map, ℕ, ◌*◌, take, drop, replicate, ℤ, pos, Option, Result}
use Rattle.strided.specs.Base.{padded, run}
use Rattle.strided.specs.Layout.{has_zero}
use Rattle.strided.specs.Refusals.{Row, refused_by, row1, row2, row5, row6, row8, row9, served_unless}
use Rattle.strided.specs.declared.Refusal.{Refusal}
use Rattle.strided.specs.declared.Plan.{Plan}
use Rattle.strided.specs.declared.Walk.{Walk}

-- a plan's arrays as lists; what lies behind the counts is not looked at
abbrev pub plan_extents : Plan → List ℕ
plan_extents p = take p.rank p.extents

abbrev pub plan_blocks : Plan → List ℕ
plan_blocks p = take p.rank p.blocks

abbrev pub plan_row : Plan → ℕ → List ℤ
plan_row p k = take p.rank (drop (k * 64) p.strides)

abbrev pub plan_rows : Plan → List (List ℤ)
plan_rows p = map (plan_row p) (run 0 p.operands)

-- the rows, judged on the plan's own extents and strides
abbrev pub begin_rows : Plan → List ℤ → List Row
begin_rows p starts =
    row1 p.rank ∷ row2 p.operands ∷ row5 (plan_extents p) ∷ row6 (plan_extents p) p.operands (plan_row p)
    ∷ row8 p.operands starts ∷ row9 (plan_extents p) p.operands (plan_row p) starts ∷ []

unfoldable pub begin_refused : Plan → List ℤ → Option Refusal
begin_refused p starts = refused_by (begin_rows p starts)

-- a walk at its beginning: all counters 0, each operand at its start. "Zero extent: no block.": then it has ended at once
abbrev pub started : Plan → List ℤ → Walk
started p starts = record { ended = has_zero (plan_extents p); counters = replicate 64 0; offsets = padded 8 (pos 0) starts }

-- A WALK BEGINS
unfoldable pub begun_at : Plan → List ℤ → Result Walk Refusal
begun_at p starts = served_unless (begin_refused p starts) (started p starts)
