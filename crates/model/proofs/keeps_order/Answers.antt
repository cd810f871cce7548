-- `model::keeps_order` meets its contract: the two tests of `in_order`, in turn. Assumes nothing.
use mathlib.Core.Path.{◌∙◌, sym}
use borrow.Author.Tests.{eq-eqb}
use Rattle.model.proofs.Whole.{in_order_none, in_order_some}
use Rattle.model.proofs.keeps_order.Goals as goal

pub returns-then-axes-eq0 : goal.returns-then-axes-eq0
returns-then-axes-eq0 c = let a = c.args in
    eq-eqb _ _ c.if-axes-eq0.true ∙ sym (in_order_none a.axes.sizes.now a.axes.strides.now a.axes.rank c.if-axes-eq0.true)

pub returns-else-axes-eq0 : goal.returns-else-axes-eq0
returns-else-axes-eq0 c = let a = c.args in
    c.all_grow.ensures ∙ sym (in_order_some a.axes.sizes.now a.axes.strides.now a.axes.rank c.if-axes-eq0.false)
