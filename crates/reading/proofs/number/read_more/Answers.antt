-- `reading::number::read_more` meets its contract: what stands behind the digits read so far is what stood at the start.
-- Assumes nothing.
use native.Mathlib.Omega.{arith}
use Rattle.reading.proofs.Digits.{more_none, reading_turn, reading_over, more_value, digit_one, digit_short}
use Rattle.reading.proofs.number.read_more.Goals as goal

pub returns-then-n-d : goal.returns-then-n-d
returns-then-n-d c = reading_over c.loop-d.invariant.1 (c.digit.ensures.value _ _ c.in-Some.is) (omega (arith, c.if-n-d.true))

pub loop-d-smaller : goal.loop-d-smaller
loop-d-smaller c = digit_short (c.digit.ensures.value _ _ c.in-Some.is)

pub loop-d-preserved : goal.loop-d-preserved
loop-d-preserved c =
    let d = c.digit.ensures.value _ _ c.in-Some.is in
    (omega (arith, c.if-n-d.false, digit_one d), reading_turn c.loop-d.invariant.1 d)

pub returns : goal.returns
returns c =
    let l = c.loop-d in
    more_value _ _ ((l.invariant.1 _ _).0 (more_none _ _ l.invariant.0 (c.digit.ensures.bad c.in_default.is)))
