-- The invariants of `line::read_operands`.
use Rattle.reading.proofs.Lines.{Lining}
use Rattle.reading.proofs.line.read_operands.Given as goal

abbrev pub invariant-loop-k : goal.invariant-loop-k
invariant-loop-k l = Lining l.s l.rank l.operands l.initial.sizes l.sizes l.initial.strides l.strides l.rest l.k l.from
