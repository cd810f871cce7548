-- `layout::rows::chosen_missing` meets its contract. Assumes nothing.
use mathlib.Core.Path.{sym, ap}
use Rattle.std.proofs.Common.{⊎_elim}
use Rattle.strided.specs.Refusals.{row4}
use Rattle.strided.specs.declared.Purpose.{Purpose}
use Rattle.layout.proofs.rows.chosen_missing.Goals as goal

pub returns-in-PointwiseInto : goal.returns-in-PointwiseInto
returns-in-PointwiseInto c =
    let applies : Purpose → _ = λ (u : Purpose). (row4 c.args.operands u).applies in
    ⊎_elim (λ e. ap applies (sym e)) (λ e. ap applies (sym e)) c.in-PointwiseInto.is
