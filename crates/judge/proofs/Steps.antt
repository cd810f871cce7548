-- What single turns of the loops do: tests over a range, Horner, the product of extents, and a buffer swept to 0.
-- Assumes nothing.
use mathlib.Core.Path.{◌≡◌, refl, sym, ap, ap₂, ◌∙◌}
use mathlib.Core.Bool.{Bool, false}
use mathlib.Core.List.{List, [], ◌∷◌}
use Prim.Native.Nat.{ℕ, zero, suc, ◌+◌, ◌*◌, ◌≤◌, ◌<◌}
use native.Mathlib.Nat.{zero-add, mul_assoc, mul-le-mul_left, mul-le-mul_right}
use native.Mathlib.Numerals.{add-one}
use native.Mathlib.Omega.{arith}
use lib.ListN.{length, get_or, take, drop}
use lib.Seq.{drop-cons}
use Rattle.std.proofs.lemmas.List.{get_or-take, length-take-le}
use Rattle.strided.specs.Base.{every}
use Rattle.strided.specs.Layout.{total, NoZero, Within}
use Rattle.laws.specs.Base.Ranges.{every_fails}
use Rattle.laws.specs.Base.Layouts.{within-length, within-total, total_nozero}
use Rattle.laws.specs.Base.Sums.{pos_mul}
use Rattle.laws.specs.Refusals.Zeros.{total_some}
use Rattle.judge.specs.Laying.{place, step_of}
use Rattle.judge.proofs.Places.{place-below}

-- ---- tests over a range

pub every_fails_at : (t : ℕ → Bool) (n k : ℕ) → k < n → t k ≡ false → every t 0 n ≡ false
every_fails_at t n k h e = every_fails t 0 n k h (ap t (zero-add k) ∙ e)

-- ---- Horner

within-drop : (es x : List ℕ) (i : ℕ) → Within es x → Within (drop i es) (drop i x)
within-drop es x zero w = w
within-drop [] [] (suc i) w = tt
within-drop [] (y ∷ x) (suc i) w = absurd w
within-drop (e ∷ es) [] (suc i) w = absurd w
within-drop (e ∷ es) (y ∷ x) (suc i) w = within-drop es x i w.1

total-drop : (es : List ℕ) (i : ℕ) → NoZero es → total (drop i es) ≤ total es
total-drop es zero z = omega arith
total-drop [] (suc i) z = omega arith
total-drop (e ∷ es) (suc i) z =
    let h : total (drop i es) ≤ total es = total-drop es i z.1 in
    let g : 1 * total es ≤ e * total es = mul-le-mul_right (total es) z.0 in
    omega arith

pub record Turned (es x : List ℕ) (i at : ℕ) : Type 0 where
  pub small : at * get_or es i 0 ≤ 65536
  pub fits : at * get_or es i 0 + get_or x i 0 ≤ 65536
  pub next : at * get_or es i 0 + get_or x i 0 ≡ place (drop i es) (drop i x)

pub place_turn : (es x : List ℕ) (i at : ℕ) → Within es x → total es ≤ 65536 → i < length es → at ≡ place (drop (i + 1) es) (drop (i + 1) x) → Turned es x i at
place_turn es x i at w t h q =
    let z : NoZero es = total_nozero es (within-total es x w) in
    let n : i < length x = omega (arith, within-length es x w) in
    let e : place (drop i es) (drop i x) ≡ place (drop (suc i) es) (drop (suc i) x) * get_or es i 0 + get_or x i 0 = ap₂ place (drop-cons es i 0 h) (drop-cons x i 0 n) in
    let p : place (drop (suc i) es) (drop (suc i) x) ≡ at = rw (← add-one i) (sym q) in
    let f : at * get_or es i 0 + get_or x i 0 ≡ place (drop i es) (drop i x) = sym (e ∙ ap (λ (k : ℕ). k * get_or es i 0 + get_or x i 0) p) in
    let b : place (drop i es) (drop i x) < total (drop i es) = place-below (drop i es) (drop i x) (within-drop es x i w) in
    let l : total (drop i es) ≤ total es = total-drop es i z in
    record { small = omega arith; fits = omega arith; next = f }

-- ---- the product of the extents before an axis

pub step-zero : (es : List ℕ) → step_of es 0 ≡ 1
step-zero [] = refl
step-zero (e ∷ es) = refl

step-next : (es : List ℕ) (i : ℕ) → i < length es → step_of es (suc i) ≡ step_of es i * get_or es i 0
step-next [] i h = absurd (omega arith)
step-next (e ∷ es) zero h = rw (step-zero es) (omega arith)
step-next (e ∷ es) (suc i) h = ap (λ (k : ℕ). e * k) (step-next es i (omega arith)) ∙ sym (mul_assoc e (step_of es i) (get_or es i 0))

-- along the first n axes
pub step-taken : (es : List ℕ) (n : ℕ) → n ≤ length es → (i : ℕ) → i < length (take n es) → (i < n) × (step_of es i * get_or (take n es) i 0 ≡ step_of es (i + 1))
step-taken es n f i h =
    let l : i < n = omega (arith, length-take-le n es f, h) in
    (l, ap (λ (k : ℕ). step_of es i * k) (get_or-take n es i 0 l) ∙ sym (step-next es i (omega (arith, l, f))) ∙ ap (step_of es) (sym (add-one i)))

pub step_fits : (es : List ℕ) (i : ℕ) → NoZero es → i ≤ length es → step_of es i ≤ total es
step_fits [] i z h = omega arith
step_fits (e ∷ es) zero z h = omega (arith, pos_mul e (total es) z.0 (total_some es z.1))
step_fits (e ∷ es) (suc i) z h = mul-le-mul_left e (step_fits es i z.1 (omega arith))
