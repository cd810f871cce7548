-- What stands at the front of the lent bytes is what is printed: the output, or the R line that is written there.
-- Assumes nothing.
use mathlib.Core.Path.{◌≡◌, refl, sym, ap, ◌∙◌}
use mathlib.Core.List.{List, [], ◌∷◌, ◌++◌}
use Prim.Native.Nat.{ℕ, ◌+◌, ◌^◌, ◌≤◌, ◌<◌}
use native.Mathlib.Nat.{zero-add}
use native.Mathlib.Omega.{arith}
use lib.ListN.{length, take, drop, replicate, length-append, length-replicate}
use lib.Seq.{take_at}
use Rattle.std.specs.Prelude.{Ok, Err}
use Rattle.strided.specs.Digits.{digits_of}
use Rattle.strided.specs.Refusals.{number}
use Rattle.strided.specs.Text.{field, line_of, Lists}
use Rattle.strided.specs.declared.Refusal.{Refusal}
use Rattle.laws.specs.Text.Answers.{lists_within}
use Rattle.laws.specs.Text.Lengths.{digits_most}
use Rattle.writing.specs.Put.{put, Wrote}
use Rattle.walklist.specs.Printing.{Printing}

-- an R line is short
pub refusal_short : (n : ℕ) → n < 2 ^ 64 → length (line_of 82 (field n)) ≤ 23
refusal_short n h = let d = digits_most n h in let l = length-append (digits_of n) (10 ∷ []) in omega arith

-- what is written at the front stands there
front : (old t new : List ℕ) (n : ℕ) → Wrote old 0 t new n → (take n new ≡ t) × (n ≤ length new)
unfolding put
front old t new n w =
    let rest : List ℕ = drop (0 + length t) old in
    let e : length t ≡ n = sym (w.place ∙ zero-add (length t)) in
    let is : new ≡ t ++ rest = w.list in
    (ap (take n) is ∙ take_at t rest n e, let a = ap length is in let b = length-append t rest in omega arith)

module _ {text room : List ℕ} where
  -- a refusal
  pub refusal_printed : {r : Refusal} {new : List ℕ} {n : ℕ} → Lists text (replicate 65536 0) (record { answer = Err r; room = room })
      → Wrote room 0 (line_of 82 (field (number r))) new n → Printing text n new
  refusal_printed {r} {new} {n} l w =
      let f = front room (line_of 82 (field (number r))) new n w in
      record { prints = (record { answer = Err r; room = room }, l, f.0); within = f.1 }

  -- an output: all of it is there
  pub output_printed : {n : ℕ} → Lists text (replicate 65536 0) (record { answer = Ok n; room = room }) → length room ≡ 65536 → Printing text n room
  output_printed {n} l long =
      let w = lists_within l n refl in
      let e = length-replicate {A = ℕ} 65536 0 in
      record { prints = (record { answer = Ok n; room = room }, l, refl); within = omega (arith, w, e, long) }
