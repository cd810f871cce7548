-- The invariants of `line::put_fields`.
use lib.ListN.{drop}
use Rattle.strided.specs.Base.{over}
use Rattle.laws.specs.Text.Once.{celled}
use Rattle.writing.proofs.Doing.{Doing}
use Rattle.writing.proofs.line.put_fields.Given as goal

abbrev pub invariant-loop-n : goal.invariant-loop-n
invariant-loop-n g l =
    let f = celled g.T.Figure.text in
    Doing l.initial.out l.at (over l.numbers f) l.out l.next (over (drop l.n-index l.numbers) f)
