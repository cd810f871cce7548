-- `session::kept::stays_kept_into` meets its contract: the order is that of fusing. Assumes nothing.
use mathlib.Core.Path.{◌≡◌, refl, sym, ap, ◌∙◌, subst}
use mathlib.Core.Bool.{true}
use mathlib.Core.List.{List}
use Prim.Native.Nat.{ℕ}
use lib.Dec.{leb}
use lib.ListN.{length}
use Rattle.strided.specs.Base.{padded}
use Rattle.strided.specs.Layout.{Axis, total}
use Rattle.strided.specs.Order.{fusing_order}
use Rattle.arrange.specs.Axes.{in_given}
use Rattle.arrange.specs.Fusing.{in_order_lem, as_planned}
use Rattle.kernel.proofs.Plans.{given_planned}
use Rattle.session.specs.Made.{purpose_in, StaysOf}
use Rattle.session.proofs.Holding.{stays_as}
use Rattle.session.proofs.kept.stays_kept_into.Goals as goal
use Rattle.session.proofs.kept.stays_kept_into.Goals.{After-order_kept_into}

-- the order that the weights give
ordered : (c : After-order_kept_into) → let l = c.layout-layout.result in
    c.order_kept_into.new.order ≡ padded 64 0 (fusing_order l.extents.now l.operands l.strides.now (purpose_in c.args.laid.now.numbers))
ordered c =
    let q = c.layout-layout.ensures in
    let u = purpose_in c.args.laid.now.numbers in
    c.order_kept_into.ensures ∙ sym (λ i. padded 64 0 (fusing_order (q.extents i) (q.operands i) (q.strides i) u))

pub stays_into-requires : goal.stays_into-requires
stays_into-requires c = record { order = in_given (length c.layout-layout.result.extents.now); zeros = c.requires.es_value }

pub returns-then-small : goal.returns-then-small
returns-then-small c =
    let l = c.layout-layout.result in
    let q = c.layout-layout.ensures in
    let small : leb (total l.extents.now) 1024 ≡ true = ap (λ (e : List ℕ). leb (total e) 1024) q.extents ∙ sym c.small.ensures ∙ c.if-small.true in
    stays_as q.extents q.operands q.strides refl
    (subst (λ (xs : List Axis). StaysOf (length l.extents.now) l.operands l.strides.now xs c.stays_into.result c.stays_into.new.es c.stays_into.new.axes)
    (given_planned l.extents.now l.operands l.strides.now (purpose_in c.args.laid.now.numbers) small (λ xs. xs) refl) c.stays_into.ensures)

pub stays_into-requires-2 : goal.stays_into-requires-2
stays_into-requires-2 c =
    let l = c.layout-layout.result in
    record {
      order = in_order_lem l.extents.now l.operands l.strides.now (purpose_in c.args.laid.now.numbers) l.fits.rank-few (ordered (goal.at.stays_into-requires-2 c).After-order_kept_into);
      zeros = c.requires.es_value;
    }

pub returns : goal.returns
returns c =
    let l = c.layout-layout.result in
    let q = c.layout-layout.ensures in
    stays_as q.extents q.operands q.strides refl
    (subst (λ (xs : List Axis). StaysOf (length l.extents.now) l.operands l.strides.now xs c.stays_into-2.result c.stays_into-2.new.es c.stays_into-2.new.axes)
    (as_planned l.extents.now l.operands l.strides.now (purpose_in c.args.laid.now.numbers) l.fits.rank-few (ordered (goal.at.returns c).After-order_kept_into) (λ xs. xs) refl) c.stays_into-2.ensures)
