-- A judgement as a C function answers it: the verdict's number, or the refusal's number negated, and the lent mark buffer.
-- Assumes nothing.
use Rattle.std.specs.Prelude.{◌≡◌, List, ℕ, ℤ, pos, Result, Ok, Err}
use Rattle.strided.specs.Refusals.{negated}
use Rattle.judge.specs.Judge.{Judges}
use Rattle.judge.specs.declared.Verdict.{Verdict}
use Rattle.judge.specs.declared.Verdict.TheVariants.{Accepted, Short, Double, Outside}
use Rattle.strided.specs.declared.Refusal.{Refusal}

abbrev pub verdict_number : Verdict → ℕ
verdict_number Accepted = 0
verdict_number Short = 1
verdict_number Double = 2
verdict_number Outside = 3

abbrev pub judged_number : Result Verdict Refusal → ℤ
judged_number (Ok v) = pos (verdict_number v)
judged_number (Err r) = negated r

-- the function answers r, and the lent buffer that held `old` holds `new`: there is a judgement, which extents, text and buffer fix
pub record JudgesMemory (es text old new : List ℕ) (r : ℤ) : Type 0 where
  pub answer : Result Verdict Refusal
  pub judges : Judges es text old (record { answer = answer; marks = new })
  pub code : r ≡ judged_number answer
