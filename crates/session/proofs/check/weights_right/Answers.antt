-- `session::check::weights_right` meets its contract. Assumes nothing.
use mathlib.Core.Path.{◌≡◌, refl, sym, ap, ◌∙◌}
use Prim.Native.Nat.{◌*◌}
use lib.ListN.{length, take}
use Rattle.strided.specs.Layout.{lead}
use Rattle.strided.specs.Weights.{weights}
use Rattle.laws.specs.Base.Arrays.{length-padded}
use Rattle.session.specs.Made.{TableOf, numbers_of, purpose_in, weights_in}
use Rattle.session.proofs.Holding.{decides_for, decides_as, decides_is, decides_nats, laid_as}
use Rattle.session.proofs.check.weights_right.Goals as goal
use Rattle.session.proofs.check.weights_right.Goals.{After-weights_kept_into}

-- the fresh array has its places still
places : (c : After-weights_kept_into) → length c.weights_kept_into.new.weights ≡ 64
places c =
    let l = c.laid-laid.result in
    ap length c.weights_kept_into.ensures
    ∙ length-padded 0 64 (weights (take l.numbers.rank l.extents.now) l.numbers.operands (take (l.numbers.rank * l.numbers.operands) l.strides.now) (lead (purpose_in l.numbers)))

pub weights_kept_into-requires : goal.weights_kept_into-requires
weights_kept_into-requires c =
    let q = c.laid-laid.ensures in
    record {
      table = laid_as (λ n E Z S. TableOf (take (n.rank * n.operands) S) n.rank n.operands c.args.ranked.table.now) (sym q.numbers) (sym q.extents) (sym q.sizes) (sym q.strides) c.args.ranked.ranks;
      zeros = refl;
    }

pub slice_bounds-same-end : goal.slice_bounds-same-end
slice_bounds-same-end c = sym (places (goal.at.slice_bounds-same-end c).After-weights_kept_into)

pub same-requires : goal.same-requires
same-requires c = places (goal.at.same-requires c).After-weights_kept_into ∙ sym c.session.invariant.weights

pub returns : goal.returns
returns c =
    let s = c.args.ranked.right.session.now in
    let q = c.laid-laid.ensures in
    let e : c.weights_kept_into.new.weights ≡ weights_in (numbers_of c.args.ranked.right.session.now) c.args.ranked.right.session.now.extents c.args.ranked.right.session.now.strides =
    c.weights_kept_into.ensures ∙ (λ i. weights_in (q.numbers i) (q.extents i) (q.strides i)) in
    decides_for (λ x. x.weights ≡ weights_in (numbers_of s) s.extents s.strides) c.session.view_is
    (decides_as (decides_is c.same.ensures (decides_nats _ _)) (λ w. sym w ∙ e) (λ w. e ∙ sym w))
