-- The invariants of `arrays::put_lines`.
use Rattle.writing.proofs.Laid.{lines_at, Before}
use Rattle.writing.proofs.Taking.{Taking}
use Rattle.writing.proofs.arrays.put_lines.Given as goal

abbrev pub invariant-loop-j : goal.invariant-loop-j
invariant-loop-j g l =
    let k = g.S.Sink in
    let lines = lines_at l.count l.x.length l.number l.operands l.d l.initial.o in
    Before l.count l.operands l.d l.initial.o l.j l.o × Taking k.May k.Took l.fn.sink l.initial.out (lines 0) l.s l.out (lines l.j)
