-- `session::check::costs_right` meets its contract. Assumes nothing.
use mathlib.Core.Path.{◌≡◌, sym, ap, ◌∙◌, subst}
use Prim.Native.Nat.{ℕ}
use native.Mathlib.Omega.{arith}
use lib.Bits.{bit_xor}
use lib.Dec.{eqb}
use lib.ListN.{get_or}
use Rattle.std.proofs.Common.{rules}
use Rattle.strided.specs.Costs.{cost_of, cost_number, costs}
use Rattle.strided.specs.Step.{blank}
use Rattle.laws.specs.Base.Arrays.{length-padded, get_d_padded, blank-ℕ, blank_behind}
use Rattle.laws.specs.Cut.Tables.{cost_at}
use Rattle.fuse.specs.Sizes.{size_at}
use Rattle.fuse.proofs.Costing.{length-costs}
use Rattle.session.specs.Made.{Cuttable, numbers_of, costs_in}
use Rattle.session.proofs.Comparing.{xor_none, nats_over}
use Rattle.session.proofs.Holding.{decides_for, decides_is, decides_nats, cuttable_of, rest_of}
use Rattle.session.proofs.check.costs_right.Goals as goal
use Rattle.session.proofs.check.costs_right.Goals.{After-session}

-- the plan's axes can be cut
cut : (c : After-session) → let i = c.session.inside in Cuttable i.numbers i.extents.now i.sizes.now i.plan_extents.now i.plan_strides.now
cut c =
    subst (λ s. Cuttable (numbers_of s) s.extents s.sizes s.plan.extents s.plan.strides) (sym c.session.view_is) (cuttable_of c.args.right.session.now c.args.right.right c.requires)

pub alike-told-requires : goal.alike-told-requires
alike-told-requires c = λ i h. let t = cut (goal.at.alike-told-requires c).After-session in search (rules, h, t, c.session.invariant.costs)

pub offset_bounds-costs-numbers : goal.offset_bounds-costs-numbers
offset_bounds-costs-numbers c = let t = cut (goal.at.offset_bounds-costs-numbers c).After-session in omega (arith, t.plan)

pub slice_bounds-all_zero-count : goal.slice_bounds-all_zero-count
slice_bounds-all_zero-count c = let t = cut (goal.at.slice_bounds-all_zero-count c).After-session in omega (arith, t.plan)

pub slice_bounds-all_zero-start : goal.slice_bounds-all_zero-start
slice_bounds-all_zero-start c = let t = cut (goal.at.slice_bounds-all_zero-start c).After-session in omega (arith, t.plan)

pub returns : goal.returns
returns c =
    let i = c.session.inside in
    let n = i.numbers in
    let PS = i.plan_strides.now in
    let t = cut (goal.at.returns c).After-session in
    let C = costs_in n PS in
    let long = c.session.invariant.costs in
    decides_for (λ s. s.costs ≡ costs_in (numbers_of s) s.plan.strides) c.session.view_is
    (decides_is
    (nats_over i.costs.now C c.alike-told.ensures (omega (arith, long, t.plan)) (long ∙ sym (length-padded 0 64 (costs PS n.operands n.plan_rank)))
    (λ j x h p.
    let a : ℕ = get_or i.costs.now j 0 in
    let b : ℕ = cost_number (cost_of (size_at PS 64 j) n.operands) in
    let is : x ≡ bit_xor a b = search (rules, p) in
    let at : get_or C j 0 ≡ b = get_d_padded 0 64 (costs PS n.operands n.plan_rank) j (omega (arith, h, t.plan)) ∙ cost_at PS n.operands n.plan_rank j h in
    ap (λ (y : ℕ). eqb y 0) is ∙ xor_none a b ∙ ap (eqb a) (sym at))
    (blank_behind blank-ℕ 64 n.plan_rank (costs PS n.operands n.plan_rank) (length-costs PS n.operands n.plan_rank))
    (c.all_zero-rest.ensures ∙ ap blank (rest_of 64 n.plan_rank i.costs.now long)))
    (decides_nats i.costs.now C))
