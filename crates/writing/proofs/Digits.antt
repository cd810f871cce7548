-- How many digits a number has, and the loop that writes them, the last one first: those of `rest` are left to write, in front of i.
-- Assumes nothing.
use Prim.Native.Nat.{ℕ, zero, suc, ◌+◌, ◌-◌, ◌*◌, ◌/◌, ◌%◌, ◌^◌, ◌≤◌, ◌<◌}
use native.Mathlib.Nat.{pow-succ'}
use native.Mathlib.Omega.{arith}
use mathlib.Core.List.{List, ◌∷◌, ◌++◌, append_assoc}
use mathlib.Core.Path.{◌≡◌, sym, ap, ◌∙◌}
use lib.ListN.{length, take, drop, set, length-append, length-take, length-drop}
use Rattle.strided.specs.Digits.{digits_of}
use Rattle.laws.specs.Text.Lengths.{digits_small, digits_big, length_big, length_small}
use Rattle.writing.specs.Put.{put}
use Rattle.writing.specs.Putting.{set_back}

-- ten to the power k is passed, the next power is not
ten_some : (k : ℕ) → 1 ≤ 10 ^ k
ten_some zero = omega arith
ten_some (suc k) = let p : 10 ^ suc k ≡ 10 * 10 ^ k = pow-succ' 10 k in omega (arith, p, ten_some k)

pub digits_counted : (k n : ℕ) → 10 ^ k ≤ n → n < 10 * 10 ^ k → length (digits_of n) ≡ k + 1
digits_counted zero n a b = length_small n (omega (arith, b))
digits_counted (suc k) n a b =
    let p : 10 ^ suc k ≡ 10 * 10 ^ k = pow-succ' 10 k in
    let l = length_big n (omega (arith, a, p, ten_some k)) in
    let m = digits_counted k (n / 10) (omega (arith, a, p)) (omega (arith, b, p)) in
    omega (arith, l, m)

pub record Writing (old : List ℕ) (at n end : ℕ) (out : List ℕ) (i rest : ℕ) : Type 0 where
  pub done : List ℕ
  pub digits : digits_of n ≡ digits_of rest ++ done
  pub place : i ≡ at + length (digits_of rest)
  pub ends : end ≡ at + length (digits_of n)
  pub room : end ≤ length old
  pub list : out ≡ take i old ++ (done ++ drop end old)

module _ {old : List ℕ} {at n end : ℕ} {out : List ℕ} {i rest : ℕ} (w : Writing old at n end out i rest) where
  fewer : length (digits_of n) ≡ length (digits_of rest) + length w.done
  fewer = ap length w.digits ∙ length-append (digits_of rest) w.done

  pub writing_within : i ≤ end
  writing_within = let f = fewer in omega arith

  pub writing_length : length out ≡ length old
  writing_length = let f = fewer in ap length w.list ∙ simp (length-append, length-take, length-drop) (omega arith)

  pub writing_turn : 9 < rest → Writing old at n end (set out (i - 1) (48 + rest % 10)) (i - 1) (rest / 10)
  writing_turn big =
      let l = length_big rest big in
      let f = fewer in
      let back : i ≡ suc (i - 1) = omega arith in
      let at_end = w.done ++ drop end old in
      record {
        done = (48 + rest % 10) ∷ w.done;
        digits = w.digits ∙ ap (λ (x : List ℕ). x ++ w.done) (digits_big rest big) ∙ append_assoc (digits_of (rest / 10)) _ w.done;
        place = omega arith;
        ends = w.ends;
        room = w.room;
        list = ap (λ (x : List ℕ). set x (i - 1) (48 + rest % 10)) (w.list ∙ ap (λ (k : ℕ). take k old ++ at_end) back) ∙ set_back old at_end (i - 1) (48 + rest % 10) (omega arith);
      }

  pub writing_last : rest ≤ 9 → set out at (48 + rest) ≡ put old at (digits_of n)
  unfolding put
  writing_last small =
      let under : rest < 10 = omega arith in
      let s = length_small rest under in
      let f = fewer in
      let next : i ≡ suc at = omega arith in
      let at_end = w.done ++ drop end old in
      let whole : digits_of n ≡ (48 + rest) ∷ w.done = w.digits ∙ ap (λ (x : List ℕ). x ++ w.done) (digits_small rest under) in
      ap (λ (x : List ℕ). set x at (48 + rest)) (w.list ∙ ap (λ (k : ℕ). take k old ++ at_end) next)
      ∙ set_back old at_end at (48 + rest) (omega arith)
      ∙ ap (λ (k : ℕ). take at old ++ (48 + rest) ∷ (w.done ++ drop k old)) w.ends
      ∙ ap (λ (x : List ℕ). take at old ++ (x ++ drop (at + length (digits_of n)) old)) (sym whole)

  pub writing_index : 9 < rest → i - 1 < length out
  writing_index big = let l = length_big rest big in let k = writing_length in let b = writing_within in omega arith

  pub writing_first : rest ≤ 9 → at < length out
  writing_first small = let l = length_small rest (omega arith) in let k = writing_length in let b = writing_within in omega arith
