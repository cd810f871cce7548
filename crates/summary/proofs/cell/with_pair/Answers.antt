-- `summary::cell::with_pair` meets its contract: where there are extremes and both cells are numbers, by `both_cells`. Assumes nothing.
use Rattle.std.proofs.Common.{sym, ◌∙◌}
use Rattle.std.proofs.lemmas.Bool.{or_parts, not-false}
use Rattle.summary.proofs.Pairs.{both_cells}
use Rattle.summary.proofs.cell.with_pair.Goals as goal

pub returns : goal.returns
returns c =
    let p = or_parts _ _ c.if-s-is_nan.false in
    let q = or_parts _ _ p.0 in
    rw (c.lesser-2.ensures, c.lesser.ensures, c.greater-2.ensures, c.greater.ensures)
    (sym (both_cells c.args.s c.args.x c.args.y (not-false c.args.s.extremes q.0) (sym c.is_nan.ensures.value ∙ q.1) (sym c.is_nan-2.ensures.value ∙ p.1)))
