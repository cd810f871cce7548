-- `session::kept::order_kept_into` meets its contract: the order by the weights is that of fusing. Assumes nothing.
use mathlib.Core.Path.{sym, ap, ◌∙◌}
use lib.Dec.{leb}
use Rattle.strided.specs.Base.{padded}
use Rattle.strided.specs.Layout.{total, lead}
use Rattle.strided.specs.Order.{fusing_order}
use Rattle.strided.specs.Weights.{weights}
use Rattle.session.specs.Made.{purpose_in}
use Rattle.session.proofs.Keeping.{order_is}
use Rattle.session.proofs.kept.order_kept_into.Goals as goal

pub returns : goal.returns
returns c =
    let l = c.layout-layout.result in
    let q = c.layout-layout.ensures in
    let u = purpose_in c.args.laid.now.numbers in
    c.sort_by_importance_into.ensures
    ∙ order_is l.extents.now l.operands l.strides.now u l.fits.rank-few l.fits.operands_few (ap (λ e. leb (total e) 1024) q.extents ∙ c.requires.large) _
    (c.requires.weights_value ∙ sym (λ i. padded 64 0 (weights (q.extents i) (q.operands i) (q.strides i) (lead u))))
    ∙ (λ i. padded 64 0 (fusing_order (q.extents i) (q.operands i) (q.strides i) u))
