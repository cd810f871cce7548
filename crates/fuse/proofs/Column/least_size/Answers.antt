-- `fuse::Column::least_size` meets its contract. The invariant: `size` is the least of the first k sizes. Assumes nothing.
use mathlib.Core.Path.{◌≡◌, sym, ap, ap₂, ◌∙◌}
use Prim.Native.Nat.{min}
use native.Mathlib.Omega.{arith}
use Rattle.strided.specs.Base.{least}
use Rattle.laws.specs.Cut.Ranges.{least_first, least_more}
use Rattle.fuse.specs.Sizes.{size_at}
use Rattle.fuse.proofs.Column.least_size.Goals as goal

pub loop-k-init : goal.loop-k-init
loop-k-init c = c.size-size.ensures ∙ sym (least_first _)

pub loop-k-preserved : goal.loop-k-preserved
loop-k-preserved c = c.min-size.ensures ∙ ap₂ min c.loop-k.invariant c.size.ensures ∙ sym (least_more _ c.loop-k.k (omega arith))

pub returns : goal.returns
returns c =
    let s = c.args.self in
    let e : c.loop-k.k ≡ s.rows.operands = omega (arith, s.some) in
    c.loop-k.invariant ∙ ap (least (size_at s.rows.strides.now s.rows.pitch s.axis) 0) e
