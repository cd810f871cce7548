-- `numpy::back::strides_out` meets its contract.
-- Assumes nothing.
use mathlib.Core.Path.{sym, ◌∙◌}
use borrow.Author.Rules.{rules}
use borrow.Author.Tests.{ne_eqb}
use Rattle.std.proofs.lemmas.Iterator.{YieldsList-from_slice}
use Rattle.std.proofs.lemmas.Iterator.Search.{any_from_yields_List}
use Rattle.numpy.specs.Numpy.{stride_out}
use Rattle.numpy.proofs.back.strides_out.Goals as goal

pub returns-else-size-eq0 : goal.returns-else-size-eq0
returns-else-size-eq0 c =
    any_from_yields_List (stride_out c.args.size) _ _ _ c.any.ensures.ran (YieldsList-from_slice c.args.strides.now cc) (λ x b q k. search rules)
    ∙ sym (rw (ne_eqb c.args.size 0 c.if-size-eq0.false))
