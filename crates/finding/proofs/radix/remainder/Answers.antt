-- `finding::radix::remainder` meets its contract. Assumes nothing.
use mathlib.Core.Path.{sym}
use native.Mathlib.Nat.{mod-eq_of_lt}
use Rattle.finding.proofs.radix.remainder.Goals as goal

pub returns-then-x-e : goal.returns-then-x-e
returns-then-x-e c = sym (mod-eq_of_lt c.if-x-e.true)
