-- A test that some of a range's numbers passes, and the row that asks it of each operand. Assumes nothing.
use Rattle.std.specs.Prelude.{◌≡◌, Bool, false, List, ℕ, zero, suc, ◌+◌, ◌-◌, ◌<◌}
use Rattle.std.proofs.Math.Path.{refl, ap}
use Rattle.std.proofs.Common.{sym, ◌∙◌, add-one}
use Rattle.std.proofs.Math.Bool.{true, cond}
use Rattle.std.proofs.lemmas.Bool.{false≢true}
use native.Mathlib.Omega.{arith}
use Rattle.strided.specs.Base.{some_of}
use Rattle.strided.specs.Layout.{has_zero}
use Rattle.strided.specs.Refusals.{some_operand}

module _ (t : ℕ → Bool) where
  pub some_of_empty : some_of t 0 0 ≡ false
  unfolding some_of
  some_of_empty = refl

  some_of_suc : (n : ℕ) → some_of t 0 (suc n) ≡ cond (t n) true (some_of t 0 n)
  unfolding some_of
  some_of_suc n = let e : 0 + n ≡ n = omega arith in ap (λ (k : ℕ). cond (t k) true (some_of t 0 n)) e

  -- none so far, and none here
  pub some_of_step : (i : ℕ) → some_of t 0 i ≡ false → t i ≡ false → some_of t 0 (i + 1) ≡ false
  some_of_step i h z = ap (some_of t 0) (add-one i) ∙ some_of_suc i ∙ rw (z, h)

  some_of_on : (i d : ℕ) → some_of t 0 i ≡ true → some_of t 0 (d + i) ≡ true
  some_of_on i zero h = let e : 0 + i ≡ i = omega arith in ap (some_of t 0) e ∙ h
  some_of_on i (suc d) h =
      let e : suc d + i ≡ suc (d + i) = omega arith in ap (some_of t 0) e ∙ some_of_suc (d + i) ∙ rw (some_of_on i d h) (either (t (d + i)))
    where
      either : (b : Bool) → cond b true true ≡ true
      either true = refl
      either false = refl

  -- one here
  pub some_of_found : (i n : ℕ) → i < n → t i ≡ true → some_of t 0 n ≡ true
  some_of_found i n h z =
      let e : n ≡ (n - suc i) + suc i = omega arith in ap (some_of t 0) e ∙ some_of_on (suc i) (n - suc i) (some_of_suc i ∙ rw z)

  -- where some pass, one of them
  pub some_of_where : (n : ℕ) → some_of t 0 n ≡ true → (i : ℕ) × (i < n) × (t i ≡ true)
  some_of_where zero h = absurd (false≢true (sym some_of_empty ∙ h))
  some_of_where (suc n) h = go (t n) refl (sym (some_of_suc n) ∙ h) (some_of_where n)
    where
      go : (b : Bool) → t n ≡ b → cond b true (some_of t 0 n) ≡ true → (some_of t 0 n ≡ true → (i : ℕ) × (i < n) × (t i ≡ true))
          → (i : ℕ) × (i < suc n) × (t i ≡ true)
      go true q e f = (n, omega arith, q)
      go false q e f = let r = f e in (r.0, omega (arith, r.1), r.2)

  -- where none passes, each fails; and back
  pub some_of_at : (n : ℕ) → some_of t 0 n ≡ false → (i : ℕ) → i < n → t i ≡ false
  some_of_at n z i h = go (t i) refl
    where
      go : (b : Bool) → t i ≡ b → t i ≡ false
      go true q = absurd (false≢true (sym z ∙ some_of_found i n h q))
      go false q = q

  pub some_of_none : (n : ℕ) → ((i : ℕ) → i < n → t i ≡ false) → some_of t 0 n ≡ false
  some_of_none zero h = some_of_empty
  some_of_none (suc n) h =
      some_of_suc n ∙ rw (h n (omega arith), some_of_none n (λ i l. h i (let g : i < suc n = omega arith in g)))

-- Rows 6 and 9 "pass if an extent is 0": the code's test z for a zero extent, and its search r over the operands where there is none
module _ (es : List ℕ) (t : ℕ → Bool) (operands : ℕ) {z : Bool} (is : z ≡ has_zero es) where
  pub operands_zero : z ≡ true → false ≡ some_operand es t operands
  operands_zero h = sym (rw (sym is ∙ h))

  pub operands_some : z ≡ false → {r : Bool} → r ≡ some_of t 0 operands → r ≡ some_operand es t operands
  operands_some h e = e ∙ sym (rw (sym is ∙ h))
