-- `joining::layouts::drop_row` meets its contract: the later rows move up, and the last places are cleared. Assumes nothing.
use Rattle.std.proofs.Common.{refl}
use Rattle.joining.proofs.Closing.{rows_closed}
use Rattle.joining.proofs.layouts.drop_row.Goals as goal

pub returns : goal.returns
returns g c =
    let a = c.args in
    rows_closed a.zero a.out.now _ a.width a.rows a.k c.requires.k_lt_rows.0 c.requires.k_lt_rows.1 refl c.requires.out_value _ c.copy_within.ensures.after c.clear.ensures
