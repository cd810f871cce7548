-- `reading::number::read_u64` meets its contract: no digit, one, or more, and then the first is not `0`.
-- Assumes nothing.
use mathlib.Core.Path.{◌≡◌}
use native.Mathlib.Omega.{arith}
use borrow.Author.Rules.{rules}
use Rattle.reading.proofs.Digits.{first_reads, one_reads, zero_bad, none_bad, more_digit, digit_goes, digit_small}
use Rattle.reading.proofs.number.read_u64.Goals as goal

pub returns-in_err-first : goal.returns-in_err-first
returns-in_err-first c = rw c.from_residual.ensures (none_bad _ (c.digit.ensures.bad c.in_err-first.was))

pub returns-in_default : goal.returns-in_default
returns-in_default c = one_reads _ (c.digit.ensures.value _ _ c.in_ok-first.was) (c.digit-2.ensures.bad c.in_default.is)

pub returns-then-first-eq0 : goal.returns-then-first-eq0
returns-then-first-eq0 c =
    zero_bad (c.digit.ensures.value _ _ c.in_ok-first.was) c.if-first-eq0.true (digit_goes (c.digit-2.ensures.value _ _ c.in-Some.is))

pub overflow_mul-first : goal.overflow_mul-first
overflow_mul-first c =
    let a = digit_small (c.digit.ensures.value _ _ c.in_ok-first.was) in
    search rules

pub overflow_add-first : goal.overflow_add-first
overflow_add-first c =
    let a = digit_small (c.digit.ensures.value _ _ c.in_ok-first.was) in
    let b = digit_small (c.digit-2.ensures.value _ _ c.in-Some.is) in
    search rules

pub returns : goal.returns
returns c =
    let above : c.in_ok-first.first ≡ 0 → ⊥ = c.if-first-eq0.false in
    first_reads (c.digit.ensures.value _ _ c.in_ok-first.was) (omega arith) (more_digit (c.digit-2.ensures.value _ _ c.in-Some.is) c.read_more.ensures)
