-- The invariants of `number::put_u64`.
use Rattle.writing.proofs.Digits.{Writing}
use Rattle.writing.proofs.number.put_u64.Given as goal

abbrev pub invariant-loop-rest : goal.invariant-loop-rest
invariant-loop-rest l = Writing l.initial.out l.at l.n l.end l.out l.i l.rest

abbrev pub decreases-loop-rest : goal.decreases-loop-rest
decreases-loop-rest l = l.rest
