-- How long the axes and rows of a lent plan are, and that what its lending refuses every entry refuses whose rows begin with the same two.
-- Assumes nothing.
use mathlib.Core.Path.{◌≡◌, sym}
use mathlib.Core.Bool.{Bool, true, false, cond}
use mathlib.Core.List.{List, ◌∷◌}
use Prim.Native.Nat.{ℕ, ◌*◌, ◌<◌}
use native.Mathlib.Omega.{arith}
use lib.ListN.{length, drop, length-take, length-drop}
use Rattle.std.specs.Prelude.{Some, None, Err}
use Rattle.strided.specs.Refusals.{Row, row1, row2, refused_by}
use Rattle.strided.specs.Begin.{plan_extents, plan_row}
use Rattle.strided.specs.Step.{step_rows}
use Rattle.strided.specs.declared.Plan.{Plan}
use Rattle.strided.specs.declared.Refusal.{Refusal}
use Rattle.laws.specs.Refusals.Rows.{refused_some}
use Rattle.layout.specs.Lent.{lent, Whole}

module _ {p : Plan} (w : Whole p) where
  pub axes_long : length (plan_extents p) ≡ p.rank
  axes_long = let l = length-take p.rank p.extents in omega (arith, l, w.extents-all, w.axes)

  pub row_long : (k : ℕ) → k < p.operands → length (plan_row p k) ≡ p.rank
  row_long k h =
      let a = length-take p.rank (drop (k * 64) p.strides) in
      let b = length-drop (k * 64) p.strides in
      omega (arith, a, b, w.axes, w.few, w.strides_all, h)

pub lent_refuses : (p : Plan) {r : Refusal} (rs : List Row) → Err r ≡ lent p → refused_by (row1 p.rank ∷ row2 p.operands ∷ rs) ≡ Some r
lent_refuses p {r} rs h = go (row1 p.rank).applies (row2 p.operands).applies (refused_some (refused_by (step_rows p)) p (sym h))
  where
    go : (a b : Bool) → cond a (Some (row1 p.rank).refusal) (cond b (Some (row2 p.operands).refusal) None) ≡ Some r
        → cond a (Some (row1 p.rank).refusal) (cond b (Some (row2 p.operands).refusal) (refused_by rs)) ≡ Some r
    go true b e = e
    go false true e = e
    go false false e = let z : ◌≡◌ {A = ℕ} 0 1 = cc e in absurd (omega arith)
