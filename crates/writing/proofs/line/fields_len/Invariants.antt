-- The invariants of `line::fields_len`.
use Rattle.laws.specs.Text.Once.{celled}
use Rattle.writing.proofs.Lines.{Measuring}
use Rattle.writing.proofs.line.fields_len.Given as goal

abbrev pub invariant-loop-n : goal.invariant-loop-n
invariant-loop-n g l = Measuring (celled g.T.Figure.text) l.numbers l.k l.n-index
