-- `session::check::axes_right` meets its contract. Assumes nothing.
use mathlib.Core.Path.{◌≡◌, refl, sym, ap, ◌∙◌, subst}
use Prim.Native.Nat.{ℕ, ◌*◌, ◌<◌}
use native.Mathlib.Omega.{arith}
use lib.IntN.{pos}
use lib.ListN.{length, take}
use lib.Seq.{get_or-take, length-take-le}
use Rattle.strided.specs.Base.{padded}
use Rattle.strided.specs.Layout.{extents}
use Rattle.strided.specs.Fuse.{plan_axes}
use Rattle.laws.specs.Base.Arrays.{length-padded}
use Rattle.laws.specs.Fuse.Arrays.{pick_rows}
use Rattle.session.specs.Session.{same_ints}
use Rattle.session.specs.Made.{purpose_in, numbers_of, weights_in, AxesAt}
use Rattle.session.proofs.Holding.{decides_for, axes_decides, stays_as}
use Rattle.session.proofs.check.axes_right.Goals as goal
use Rattle.session.proofs.check.axes_right.Goals.{After-session, After-layout-layout, After-stays_kept_into-found}

-- the layout's slices, and its purpose
module _ (c : After-layout-layout) where
  extents_are : c.layout-layout.result.extents.now ≡ take c.args.right.session.now.rank c.args.right.session.now.extents
  extents_are = let q = c.laid-laid.ensures in c.layout-layout.ensures.extents ∙ (λ i. take (q.numbers i).rank (q.extents i))

  strides_are : c.layout-layout.result.strides.now ≡ take (c.args.right.session.now.rank * c.args.right.session.now.operands) c.args.right.session.now.strides
  strides_are = let q = c.laid-laid.ensures in c.layout-layout.ensures.strides ∙ (λ i. take ((q.numbers i).rank * (q.numbers i).operands) (q.strides i))

  operands_are : c.layout-layout.result.operands ≡ c.args.right.session.now.operands
  operands_are = c.layout-layout.ensures.operands ∙ ap (λ n. n.operands) c.laid-laid.ensures.numbers

-- the weights are the layout's
weighed : (c : After-session) → c.session.inside.weights.now ≡ weights_in (numbers_of c.args.right.session.now) c.args.right.session.now.extents c.args.right.session.now.strides
weighed c = ap (λ s. s.weights) c.session.view_is ∙ c.requires

-- the fresh extents have their places still
places : (c : After-stays_kept_into-found) → length c.stays_kept_into-found.new.es ≡ 64
places c =
    let l = c.laid-laid.result in
    let n = l.numbers in
    ap length c.stays_kept_into-found.ensures.extents
    ∙ length-padded 0 64 (extents (plan_axes (take n.rank l.extents.now) n.operands (take (n.rank * n.operands) l.strides.now) (purpose_in n)))

pub stays_kept_into-found-requires : goal.stays_kept_into-found-requires
stays_kept_into-found-requires c =
    let q = c.laid-laid.ensures in
    record {
      weights_value = weighed (goal.at.stays_kept_into-found-requires c).After-session ∙ sym (λ i. weights_in (q.numbers i) (q.extents i) (q.strides i));
      es_value = (refl, refl);
    }

pub slice_bounds-same-end : goal.slice_bounds-same-end
slice_bounds-same-end c = sym (places (goal.at.slice_bounds-same-end c).After-stays_kept_into-found)

pub same-loops-requires : goal.same-loops-requires
same-loops-requires c = places (goal.at.same-loops-requires c).After-stays_kept_into-found ∙ sym c.session.invariant.plan_extents

pub strides_right-moves-requires : goal.strides_right-moves-requires
strides_right-moves-requires c =
    let y = c.stays_kept_into-found.ensures in
    let r = c.rows.ensures in
    let f = c.layout-layout.result.fits in
    let long = ap length c.layout-layout.ensures.extents in
    let taken : length (take c.stays_kept_into-found.result c.stays_kept_into-found.new.axes) ≡ c.stays_kept_into-found.result =
    length-take-le c.stays_kept_into-found.result c.stays_kept_into-found.new.axes (omega (arith, y.few, y.places)) in
    record {
      few = (omega (arith, r.operands, f.operands_few), omega (arith, taken, y.few));
      by_index = λ j h. let g : j < c.stays_kept_into-found.result = omega (arith, taken) in
          subst (λ (x : ℕ). x < c.rows.result.pitch) (sym (get_or-take c.stays_kept_into-found.result c.stays_kept_into-found.new.axes j 0 g)) (omega (arith, r.pitch, long, y.inside j g));
    }

pub returns : goal.returns
returns c =
    let s = c.args.right.session.now in
    let i = c.session.inside in
    let q = c.laid-laid.ensures in
    let at = (goal.at.returns c).After-layout-layout in
    let es = extents_are at in
    let ss = strides_are at in
    let m = operands_are at in
    let r = c.rows.ensures in
    let A = take c.stays_kept_into-found.result c.stays_kept_into-found.new.axes in
    decides_for (λ x. (x.plan.operands ≡ x.operands) × AxesAt (numbers_of s) s.extents s.strides x.plan.rank x.weights x.plan.extents x.plan.strides) c.session.view_is
    (axes_decides (take s.rank s.extents) s.operands (take (s.rank * s.operands) s.strides) (purpose_in (numbers_of s))
    (stays_as (λ j. take (q.numbers j).rank (q.extents j)) (ap (λ n. n.operands) q.numbers) (λ j. take ((q.numbers j).rank * (q.numbers j).operands) (q.strides j)) (ap purpose_in q.numbers) c.stays_kept_into-found.ensures)
    i.numbers.plan_operands i.numbers.operands i.numbers.plan_rank i.weights.now i.plan_extents.now i.plan_strides.now (weighed (goal.at.returns c).After-session)
    c.same-loops.ensures
    (c.strides_right-moves.ensures
    ∙ (λ j. same_ints (padded 512 (pos 0) (pick_rows ((r.strides ∙ ss) j) ((r.pitch ∙ ap length es) j) A ((r.operands ∙ m) j))) i.plan_strides.now)))
