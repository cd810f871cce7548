-- `walk::onward::place_on` meets its contract. Assumes nothing.
use mathlib.Core.Path.{refl, sym, ap, subst}
use Prim.Native.Nat.{◌<◌}
use lib.ListN.{get_or}
use Rattle.strided.specs.declared.Plan.{Plan}
use Rattle.layout.specs.Lent.{Whole}
use Rattle.advance.proofs.Acts.{width_some_on, width_read}
use Rattle.walk.proofs.onward.place_on.Goals as goal

pub tile_start-requires : goal.tile_start-requires
tile_start-requires c = width_some_on c.args.plan.now c.args.axis c.width_on-width.ensures

pub invariant_of-result : goal.invariant_of-result
invariant_of-result c = record {
  wide = width_some_on c.args.plan.now c.args.axis c.width_on-width.ensures;
  inside = subst (λ (q : Plan). get_or c.args.c.now c.args.axis 0 < get_or q.extents c.args.axis 0) (sym c.plan.view_is) c.requires.within;
  begins = c.tile_start.ensures;
}

pub returns : goal.returns
returns c =
    let few = (subst Whole c.plan.view_is c.plan.invariant).axes in record {
      extent = ap (λ (q : Plan). get_or q.extents c.args.axis 0) c.plan.view_is;
      width = width_read c.args.plan.now few c.args.axis c.requires.axis_bound.1 c.width_on-width.ensures;
      here = refl;
    }
