-- `session::check::layout_right` meets its contract. Assumes nothing.
use mathlib.Core.Path.{◌≡◌, refl, sym, ap, ◌∙◌, subst}
use Rattle.std.specs.Prelude.{Option, None}
use Rattle.strided.specs.declared.Refusal.{Refusal}
use Rattle.session.specs.Same.{Decides}
use mathlib.Core.Bool.{◌&&◌}
use Prim.Native.Nat.{◌*◌, ◌≤◌}
use lib.ListN.{take, drop}
use Rattle.strided.specs.Refusals.{planning_refused}
use Rattle.strided.specs.Step.{blank, blank_z}
use Rattle.laws.specs.Refusals.Rows.{few-axes, few_operands}
use Rattle.session.specs.Made.{LaidRight, numbers_of, purpose_in}
use Rattle.session.proofs.Holding.{decides_for, decides_not, decides_checked, layout_far, layout_many, layout_decides}
use Rattle.session.proofs.check.layout_right.Goals as goal
use Rattle.session.proofs.check.layout_right.Goals.{After-is_ok-plain, then-rank_over-via-then-rank_over, then-rank_over-via-else-rank_over+then-operands_wrong}

-- what the three tests say together
decided : (c : After-is_ok-plain) → Decides (c.purpose_told-told.result && (c.tidy-neat.result && c.is_ok-plain.result)) (LaidRight c.args.session.now)
decided c =
    let i = c.session.inside in
    let w = c.session.invariant in
    let axes : c.session.inside.numbers.rank ≤ 64 = few-axes _ c.rank_over.ensures c.if-rank_over.false in
    let few : c.session.inside.numbers.operands ≤ 8 = few_operands _ c.operands_wrong.ensures c.if-operands_wrong.false in
    let q = c.laid-laid.ensures in
    let l = c.layout-layout.ensures in
    let v = sym c.session.view_is in
    let n : c.laid-laid.result.numbers ≡ c.session.inside.numbers = q.numbers ∙ ap numbers_of v in
    let es = l.extents ∙ (λ j. take (n j).rank ((q.extents ∙ ap (λ s. s.extents) v) j)) in
    let ss = l.strides ∙ (λ j. take ((n j).rank * (n j).operands) ((q.strides ∙ ap (λ s. s.strides) v) j)) in
    decides_for LaidRight c.session.view_is
    (layout_decides i.numbers i.extents.now i.sizes.now i.strides.now w.extents w.sizes w.strides axes few
    c.purpose_told-told.ensures (c.tidy-neat.ensures ∙ ap (λ s. blank (drop s.rank s.extents) && (blank (drop s.operands s.sizes) && blank_z (drop (s.rank * s.operands) s.strides))) v)
    (c.purpose.ensures ∙ ap purpose_in n)
    (subst (λ (o : Option Refusal). Decides c.is_ok-plain.result (o ≡ None))
    (λ j. planning_refused i.numbers.machine (es j) (take i.numbers.operands i.sizes.now) (ss j) c.purpose.result)
    (decides_checked c.layout-layout.result.extents.now (take i.numbers.operands i.sizes.now) c.layout-layout.result.strides.now c.check_planning-answer.result c.check_planning-answer.ensures c.is_ok-plain.ensures.value)))

pub invariant_of-result : goal.invariant_of-result
invariant_of-result c = record { right = (decided (goal.at.invariant_of-result c).After-is_ok-plain).yes c.if-right.true }

pub returns : goal.returns
returns c = (decided (goal.at.returns c).After-is_ok-plain).no c.if-right.false

pub returns-then-rank_over : goal.returns-then-rank_over
returns-then-rank_over c =
    let i = c.session.inside in
    let w = c.session.invariant in
    (decides_for LaidRight c.session.view_is
    (decides_not (elim c.then-rank_over.branch [
      | then-rank_over-via-then-rank_over v ↦ layout_far i.numbers i.extents.now i.sizes.now i.strides.now w.extents w.sizes w.strides (sym c.rank_over.ensures ∙ v.if-rank_over.true)
      | then-rank_over-via-else-rank_over+then-operands_wrong v ↦ layout_many i.numbers i.extents.now i.sizes.now i.strides.now w.extents w.sizes w.strides (sym v.operands_wrong.ensures ∙ v.if-operands_wrong.true)
    ]))).no refl
