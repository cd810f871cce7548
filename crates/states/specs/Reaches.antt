-- Row 10 as the code tests it, part by part.
-- Assumes nothing.
use Rattle.std.specs.Prelude.{Bool, cond, not, ◌&&◌, List, ℕ, take}
use Rattle.strided.specs.Refusals.{row5, row6}
use Rattle.strided.specs.Walk.{CutAxis}
use Rattle.strided.specs.Begin.{plan_extents, plan_row, plan_rows}
use Rattle.strided.specs.Step.{insideb, on_startb, zerosb, reachable, plan_cut_axes, unpacked, tidy, may_begin}
use Rattle.strided.specs.declared.Plan.{Plan}
use Rattle.strided.specs.declared.Walk.{Walk}

-- where the counters of a walk may stand
unfoldable pub standing : Bool → Plan → List ℕ → Bool
standing ended p c =
    let axs : List CutAxis = plan_cut_axes p in
    let at : List ℕ = take p.rank c in
    cond (not ended) (insideb axs at && on_startb axs at) (zerosb axs at)

-- rows 5 and 6 let a walk begin
unfoldable pub may_start : Plan → Bool
may_start p = not (row5 (plan_extents p)).applies && not (row6 (plan_extents p) p.operands (plan_row p)).applies

-- the test of row 10 in `stepped` (crate laws: it holds exactly at the states that a begun walk reaches)
unfoldable pub reaches : Plan → Walk → Bool
reaches p w = tidy p w && reachable (plan_cut_axes p) (plan_rows p) (may_begin p) (unpacked p w)
