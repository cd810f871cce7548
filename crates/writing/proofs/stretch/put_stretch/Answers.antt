-- `writing::stretch::put_stretch` meets its contract: the stretch's parts are handed on.
-- Assumes nothing.
use mathlib.Core.Path.{sym, subst}
use Rattle.strided.specs.declared.Plan.{Plan}
use Rattle.walker.specs.Stretch.{RowsFit}
use Rattle.writing.specs.Sink.{Goes}
use Rattle.writing.specs.Stretch.{lines_in}
use Rattle.writing.proofs.stretch.put_stretch.Goals as goal

pub put_lines-requires-clause-rows_fit : goal.put_lines-requires-clause-rows_fit
put_lines-requires-clause-rows_fit g c =
    let b = c.args.stretch in
    subst (λ (p : Plan). RowsFit b.next.count p.operands b.moves.now b.first.now) (sym c.plan.view_is) b.fit

pub put_lines-requires-clause-may : goal.put_lines-requires-clause-may
put_lines-requires-clause-may g c =
    let k = g.S.Sink in
    let b = c.args.stretch in
    subst (λ (p : Plan). k.May c.args.sink c.args.out.now (lines_in p.operands b.next c.args.number b.moves.now b.first.now)) (sym c.plan.view_is) c.requires.may

pub returns : goal.returns
returns g c =
    let k = g.S.Sink in
    let b = c.args.stretch in
    subst (λ (p : Plan). Goes k.Took k.Full c.args.sink c.args.out.now (lines_in p.operands b.next c.args.number b.moves.now b.first.now) c.put_lines.new.out c.put_lines.result) c.plan.view_is c.put_lines.ensures
