-- `model::grows` meets its contract: a size above 0, and the strides. Assumes nothing.
use native.Mathlib.Omega.{arith}
use mathlib.Core.Path.{sym, ◌∙◌}
use borrow.Author.Tests.{le-ltb}
use Rattle.model.proofs.Growing.{grows_empty, grows_is}
use Rattle.model.proofs.grows.Goals as goal

pub returns-then-size-gt0 : goal.returns-then-size-gt0
returns-then-size-gt0 c =
    let a = c.args in
    c.strictly_increasing.ensures ∙ sym (grows_is a.axes.strides.now a.axes.rank a.k a.axes.sizes.now (omega (arith, c.size.ensures, c.if-size-gt0.true)))

pub returns-else-size-gt0 : goal.returns-else-size-gt0
returns-else-size-gt0 c =
    let a = c.args in
    le-ltb _ _ c.if-size-gt0.false ∙ sym (grows_empty a.axes.strides.now a.axes.rank a.k a.axes.sizes.now (omega (arith, c.size.ensures, c.if-size-gt0.false)))
