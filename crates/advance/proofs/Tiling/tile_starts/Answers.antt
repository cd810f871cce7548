-- `advance::Tiling::tile_starts` meets its contract: the plan's rank is handed on. Assumes nothing.
use Rattle.strided.specs.declared.Plan.{Plan}
use Rattle.advance.specs.Axis.{starts_to}
use Rattle.layout.specs.Lent.{Whole}
use Rattle.advance.proofs.Acts.{acting_pos}
use Prim.Native.Nat.{◌<◌}
use mathlib.Core.Path.{◌≡◌, subst}
use Rattle.advance.proofs.Tiling.tile_starts.Goals as goal

pub tile_starts-requires : goal.tile_starts-requires
tile_starts-requires c = (
  c.plan.invariant.axes,
  λ i h.
      acting_pos (subst Whole c.plan.view_is c.plan.invariant) c.args.self.now.acting i
      (subst (λ (q : Plan). i < q.rank) c.plan.view_is h),
)

pub returns : goal.returns
returns c =
    let a = c.args in
    subst (λ (p : Plan). c.tile_starts.result ≡ starts_to a.self.now.widths a.c.now p.rank) c.plan.view_is c.tile_starts.ensures
