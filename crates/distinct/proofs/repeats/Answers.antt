-- `distinct::repeats` meets its contract: few cells and many answer the same. Assumes nothing.
use mathlib.Core.Path.{sym, ◌∙◌}
use borrow.Author.Tests.{leb-true}
use Rattle.strided.specs.Layout.{total}
use Rattle.distinct.proofs.repeats.Goals as goal

pub few_repeat-requires : goal.few_repeat-requires
few_repeat-requires c = leb-true (total c.args.operand.extents.now) 256 (sym c.total_at_most.ensures ∙ c.if-total_at_most.true)
