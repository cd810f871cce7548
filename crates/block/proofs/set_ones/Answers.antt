-- `block::set_ones` meets its contract: what is filled are the blocks of the tail. Assumes nothing.
use native.Mathlib.Omega.{arith}
use Rattle.std.proofs.Common.{rules}
use Rattle.region.specs.Tail.{axes}
use Rattle.block.proofs.Filling.{filled}
use Rattle.block.proofs.set_ones.Goals as goal

pub returns : goal.returns
returns c =
    let t = c.args.tail in
    filled t.offset (axes t) c.args.blocks.now _ (omega (arith, c.told-blocks)) (c.fill.ensures.after (λ y h. search rules))
