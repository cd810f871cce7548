-- `kernel::clear_axes` meets its contract: the halves are filled, one after the other. Assumes nothing.
use mathlib.Core.Path.{refl}
use lib.IntN.{pos}
use Rattle.std.proofs.Common.{rules}
use Rattle.kernel.proofs.Clearing.{halves}
use Rattle.kernel.proofs.clear_axes.Goals as goal

pub returns : goal.returns
returns c =
    record {
      extents = refl;
      strides = halves (pos 0) 256 c.args.table.now _ _ c.told-table (c.fill.ensures.after (λ y h. search rules)) (c.fill-2.ensures.after (λ y h. search rules));
    }
