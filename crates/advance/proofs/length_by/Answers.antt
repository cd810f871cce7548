-- `advance::length_by` meets its contract: the plan's rank and axis 0 are handed on. Assumes nothing.
use mathlib.Core.Path.{◌≡◌, ◌∙◌, sym, subst}
use Prim.Native.Nat.{◌<◌}
use lib.ListN.{get_or}
use Rattle.strided.specs.declared.Plan.{Plan}
use Rattle.advance.specs.Blocks.{length_by}
use Rattle.advance.proofs.Axis.{length_on_plan}
use Rattle.advance.proofs.length_by.Goals as goal

pub length_on-requires : goal.length_on-requires
length_on-requires c = subst (λ (p : Plan). 0 < p.rank → c.args.at < get_or p.extents 0 0) (sym c.plan.view_is) c.requires

pub returns : goal.returns
returns c =
    let a = c.args in
    subst (λ (p : Plan). c.length_on.result ≡ length_by p a.width a.at) c.plan.view_is (c.length_on.ensures ∙ length_on_plan _ a.width a.at)
