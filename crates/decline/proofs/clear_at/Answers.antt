-- `decline::clear_at` meets its contract: the width is that of the slab, which row 6 bounds. Assumes nothing.
use native.Mathlib.Omega.{arith}
use mathlib.Core.Path.{ap, ◌∙◌}
use Prim.Native.Nat.{ℕ}
use Rattle.decline.specs.Slabs.{share_none}
use Rattle.decline.proofs.Rooms.{slab_near}
use Rattle.decline.proofs.clear_at.Goals as goal

pub slab_width-width-requires : goal.slab_width-width-requires
slab_width-width-requires c =
    let a = c.args in
    (omega (arith, a.axes.to, c.requires.inside), omega (arith, slab_near a.axes a.k a.cut c.requires.reach c.requires.there c.requires.inside))

pub invariant_of-slabs : goal.invariant_of-slabs
invariant_of-slabs c =
    let a = c.args in
    record { inside = c.requires.inside; near = omega (arith, slab_near a.axes a.k a.cut c.requires.reach c.requires.there c.requires.inside, c.slab_width-width.ensures) }

pub returns : goal.returns
returns c =
    let a = c.args in
    c.slabs_share_no_line.ensures ∙ ap (λ (w : ℕ). share_none a.machine.numbers a.axes a.k a.cut w) c.slab_width-width.ensures
