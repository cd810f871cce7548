-- A VISIT: a step with its record (document 02, ask 10). Index finding tells the original index of the block's first cell, so the entry takes
-- the layout and its purpose beside the plan and the state.
-- Assumes nothing.
use Rattle.std.specs.Prelude.{List, [], ◌∷◌, ℕ, zero, suc, ℤ, length, take, Option, None, Some, Result, Ok, Err}
use Rattle.strided.specs.Refusals.{Row, refused_by, answers_unless, row1, row2, row3, row4, span_rows}
use Rattle.strided.specs.Index.{told_original}
use Rattle.strided.specs.Step.{plan_cut_axes, stepped}
use Rattle.strided.specs.declared.Purpose.{Purpose}
use Rattle.strided.specs.declared.Refusal.{Refusal}
use Rattle.strided.specs.declared.Plan.{Plan}
use Rattle.strided.specs.declared.Told.{Told}
use Rattle.strided.specs.declared.Walk.{Walk}
use Rattle.strided.specs.declared.Block.{Block}
use Rattle.strided.specs.declared.Stepped.{Stepped}
use Rattle.views.specs.Number.{block_number}
use Rattle.views.specs.declared.Visit.{Visit}
use Rattle.views.specs.declared.Visited.{Visited}

-- ---- the record

-- the block that a step hands out, with its number, and the index told of its first cell
abbrev pub visit_of : Plan → Block → Told → Visit
visit_of p b t = record { number = block_number (plan_cut_axes p) (take p.rank b.counters); block = b; first = t }

-- ---- the rows

-- rows 1 and 2 are judged on the layout's and on the plan's own counts, and "the least number wins" over both; 3 to 6 are the layout's
abbrev pub visit_rows : List ℕ → List ℕ → List ℤ → Purpose → ℕ → ℕ → List Row
visit_rows es sizes ss u rank operands =
    row1 (length es) ∷ row1 rank ∷ row2 (length sizes) ∷ row2 operands ∷ row3 (length es) (length sizes) ss ∷ row4 (length sizes) u
    ∷ span_rows es sizes ss

unfoldable pub visit_refused : List ℕ → List ℕ → List ℤ → Purpose → ℕ → ℕ → Option Refusal
visit_refused es sizes ss u rank operands = refused_by (visit_rows es sizes ss u rank operands)

-- ---- the entry

-- a record, and the state to hand to the next visit
abbrev pub shown : Visit → Walk → Result Visited Refusal
shown v w = Ok (record { visit = Some v; walk = w })

-- a walk that has ended answers so, and has no record
abbrev pub ended_visit : Walk → Result Visited Refusal
ended_visit w = Ok (record { visit = None; walk = w })

-- the block's first counters must be an index of the layout's plan, or 11 refuses
abbrev pub found_visit : Plan → Block → Walk → Result Told Refusal → Result Visited Refusal
found_visit p b w (Ok t) = shown (visit_of p b t) w
found_visit p b w (Err r) = Err r

-- a step's block, or none, and its state; `tell` tells the original index of counters
abbrev pub visit_by : (List ℕ → Result Told Refusal) → Plan → Option Block → Walk → Result Visited Refusal
visit_by tell p None w = ended_visit w
visit_by tell p (Some b) w = found_visit p b w (tell (take p.rank b.counters))

-- the step s of the plan, seen. Row 10 is the step's
abbrev pub seen_by : (List ℕ → Result Told Refusal) → Plan → Result Stepped Refusal → Result Visited Refusal
seen_by tell p (Ok s) = visit_by tell p s.block s.walk
seen_by tell p (Err r) = Err r

-- with the layout
abbrev pub seen : List ℕ → List ℕ → List ℤ → Purpose → Plan → Result Stepped Refusal → Result Visited Refusal
seen es sizes ss u p s = seen_by (told_original es sizes ss u) p s

-- A VISIT: rows 1 to 6; then row 10, or "ended"; then row 11, or the record with the walk's next state
unfoldable pub visited : List ℕ → List ℕ → List ℤ → Purpose → Plan → Walk → Result Visited Refusal
visited es sizes ss u p w = answers_unless (visit_refused es sizes ss u p.rank p.operands) (seen es sizes ss u p (stepped p w))

-- the state to go on with: the one that a visit hands out, or, if it is refused, the one that it was handed
abbrev pub left_with : Walk → Result Visited Refusal → Walk
left_with w (Ok v) = v.walk
left_with w (Err r) = w

-- n visits from the state w, each handed the state last returned
abbrev pub visits_from : List ℕ → List ℕ → List ℤ → Purpose → Plan → ℕ → Walk → List (Result Visited Refusal)
visits_from es sizes ss u p zero w = []
visits_from es sizes ss u p (suc n) w = visited es sizes ss u p w ∷ visits_from es sizes ss u p n (left_with w (visited es sizes ss u p w))
