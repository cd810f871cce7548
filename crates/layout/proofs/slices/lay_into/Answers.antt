-- `layout::slices::lay_into` meets its contract: the zeros behind the elements stay. Assumes nothing.
use Rattle.std.proofs.Common.{length, refl}
use Rattle.laws.specs.Base.Stores.{front-padded}
use Rattle.layout.proofs.slices.lay_into.Goals as goal

pub returns : goal.returns
returns g c =
    let xs = c.args.list.now in
    front-padded 0 g.row.N (length xs) _ xs _ c.copy_from_slice.ensures.after c.requires.out refl c.requires.few
