-- `writing::number::put_u64` meets its contract: the loop keeps `Writing`: the digits of `rest` are left to write, in front of i.
-- Assumes nothing.
use native.Mathlib.Omega.{arith}
use Rattle.laws.specs.Text.Lengths.{length_big}
use Rattle.writing.proofs.Digits.{writing_turn, writing_last, writing_index, writing_first}
use Rattle.writing.proofs.number.put_u64.Goals as goal

pub overflow_sub-i : goal.overflow_sub-i
overflow_sub-i c = omega (arith, c.loop-rest.invariant.place, length_big _ c.loop-rest-test.true)

pub bounds-out-i : goal.bounds-out-i
bounds-out-i c = writing_index c.loop-rest.invariant c.loop-rest-test.true

pub loop-rest-preserved : goal.loop-rest-preserved
loop-rest-preserved c = writing_turn c.loop-rest.invariant c.loop-rest-test.true

pub bounds-out-at : goal.bounds-out-at
bounds-out-at c = writing_first c.loop-rest.invariant c.loop-rest-test.false

pub returns : goal.returns
returns c = record { list = writing_last c.loop-rest.invariant c.loop-rest-test.false; place = omega arith }
