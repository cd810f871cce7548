-- `walker::move_by` meets its contract: the plan's operands are handed on. Assumes nothing.
use Rattle.strided.specs.declared.Plan.{Plan}
use Rattle.walker.specs.Way.{MayMove, added}
use mathlib.Core.Path.{◌≡◌, sym, subst}
use Rattle.walker.proofs.move_by.Goals as goal

pub move_by-requires : goal.move_by-requires
move_by-requires c = subst (λ (p : Plan). MayMove p.operands c.args.d.now c.args.o.now) (sym c.plan.view_is) c.requires

pub returns : goal.returns
returns c = subst (λ (p : Plan). c.move_by.new.o ≡ added p.operands c.args.d.now c.args.o.now) c.plan.view_is c.move_by.ensures
