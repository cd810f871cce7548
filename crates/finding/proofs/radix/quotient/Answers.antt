-- `finding::radix::quotient` meets its contract. Assumes nothing.
use mathlib.Core.Path.{sym}
use native.Mathlib.Nat.{div-eq_of_lt}
use Rattle.finding.proofs.radix.quotient.Goals as goal

pub returns-then-x-e : goal.returns-then-x-e
returns-then-x-e c = sym (div-eq_of_lt c.if-x-e.true)
