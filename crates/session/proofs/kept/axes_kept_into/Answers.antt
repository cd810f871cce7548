-- `session::kept::axes_kept_into` meets its contract: the order is that of fusing. Assumes nothing.
use mathlib.Core.Path.{◌≡◌, sym, ap, ◌∙◌}
use mathlib.Core.Bool.{true}
use mathlib.Core.List.{List}
use Prim.Native.Nat.{ℕ}
use lib.Dec.{leb}
use lib.ListN.{length}
use Rattle.strided.specs.Base.{padded}
use Rattle.strided.specs.Fuse.{plan_axes}
use Rattle.strided.specs.Layout.{total, extents}
use Rattle.strided.specs.Order.{fusing_order}
use Rattle.strided.specs.Plan.{stride_table}
use Rattle.arrange.specs.Axes.{in_given}
use Rattle.arrange.specs.Fusing.{in_order_lem, as_planned}
use Rattle.kernel.proofs.Plans.{given_planned}
use Rattle.session.specs.Made.{purpose_in}
use Rattle.session.proofs.kept.axes_kept_into.Goals as goal
use Rattle.session.proofs.kept.axes_kept_into.Goals.{After-order_kept_into}

-- the order that the weights give
ordered : (c : After-order_kept_into) → let l = c.layout-layout.result in
    c.order_kept_into.new.order ≡ padded 64 0 (fusing_order l.extents.now l.operands l.strides.now (purpose_in c.args.laid.now.numbers))
ordered c =
    let q = c.layout-layout.ensures in
    let u = purpose_in c.args.laid.now.numbers in
    c.order_kept_into.ensures ∙ sym (λ i. padded 64 0 (fusing_order (q.extents i) (q.operands i) (q.strides i) u))

pub plan_axes_into-requires : goal.plan_axes_into-requires
plan_axes_into-requires c =
    record { order = in_given (length c.layout-layout.result.extents.now); zeros = (c.requires.zeros.extents, c.requires.zeros.strides) }

pub returns-then-small : goal.returns-then-small
returns-then-small c =
    let l = c.layout-layout.result in
    let q = c.layout-layout.ensures in
    let u = purpose_in c.args.laid.now.numbers in
    let es = l.extents.now in
    let ss = l.strides.now in
    let small : leb (total es) 1024 ≡ true = ap (λ (e : List ℕ). leb (total e) 1024) q.extents ∙ sym c.small.ensures ∙ c.if-small.true in
    let found = c.plan_axes_into.ensures in
    record {
      weights = c.requires.weights_value;
      count = given_planned es l.operands ss u small length found.rank ∙ (λ i. length (plan_axes (q.extents i) (q.operands i) (q.strides i) u));
      extents = given_planned es l.operands ss u small (λ xs. padded 64 0 (extents xs)) found.extents ∙ (λ i. padded 64 0 (extents (plan_axes (q.extents i) (q.operands i) (q.strides i) u)));
      strides = given_planned es l.operands ss u small (λ xs. stride_table xs l.operands) found.strides ∙ (λ i. stride_table (plan_axes (q.extents i) (q.operands i) (q.strides i) u) (q.operands i));
    }

pub plan_axes_into-requires-2 : goal.plan_axes_into-requires-2
plan_axes_into-requires-2 c =
    let l = c.layout-layout.result in
    record {
      order = in_order_lem l.extents.now l.operands l.strides.now (purpose_in c.args.laid.now.numbers) l.fits.rank-few (ordered (goal.at.plan_axes_into-requires-2 c).After-order_kept_into);
      zeros = (c.requires.zeros.extents, c.requires.zeros.strides);
    }

pub returns : goal.returns
returns c =
    let l = c.layout-layout.result in
    let q = c.layout-layout.ensures in
    let u = purpose_in c.args.laid.now.numbers in
    let es = l.extents.now in
    let ss = l.strides.now in
    let few = l.fits.rank-few in
    let o = ordered (goal.at.returns c).After-order_kept_into in
    let found = c.plan_axes_into-2.ensures in
    record {
      weights = c.requires.weights_value;
      count = as_planned es l.operands ss u few o length found.rank ∙ (λ i. length (plan_axes (q.extents i) (q.operands i) (q.strides i) u));
      extents = as_planned es l.operands ss u few o (λ xs. padded 64 0 (extents xs)) found.extents ∙ (λ i. padded 64 0 (extents (plan_axes (q.extents i) (q.operands i) (q.strides i) u)));
      strides = as_planned es l.operands ss u few o (λ xs. stride_table xs l.operands) found.strides ∙ (λ i. stride_table (plan_axes (q.extents i) (q.operands i) (q.strides i) u) (q.operands i));
    }
