-- A zero extent makes the total 0, and nothing else does; so row 5 asks for the total alone. Assumes nothing.
use Rattle.std.specs.Prelude.{◌≡◌, refl, Bool, true, false, ◌||◌, ◌&&◌, not, List, [], ◌∷◌, ℕ, ◌*◌, ◌<◌, ltb, eqb}
use Rattle.std.proofs.Common.{sym, ap, ◌∙◌, mul-zero, zero-mul, arith, eqb-true, ne_eqb, le-ltb}
use Rattle.std.proofs.lemmas.Bool.{false≢true, eqb-false}
use Rattle.strided.specs.Layout.{total, has_zero, NoZero, max_u}
use Rattle.strided.specs.Refusals.{row5}
use Rattle.laws.specs.Base.Tests.{or_none}
use Rattle.laws.specs.Base.Sums.{pos_mul}

pub zero-total : (es : List ℕ) → has_zero es ≡ true → total es ≡ 0
zero-total [] h = absurd (false≢true h)
zero-total (e ∷ es) h = go (eqb e 0) refl h (zero-total es)
  where
    go : (b : Bool) → eqb e 0 ≡ b → (b || has_zero es) ≡ true → (has_zero es ≡ true → total es ≡ 0) → e * total es ≡ 0
    go true q p f = ap (λ (k : ℕ). k * total es) (eqb-true e 0 q) ∙ zero-mul (total es)
    go false q p f = ap (λ (k : ℕ). e * k) (f p) ∙ mul-zero e

pub no_zero_of : (es : List ℕ) → has_zero es ≡ false → NoZero es
no_zero_of [] h = tt
no_zero_of (e ∷ es) h =
    let p = or_none (eqb e 0) (has_zero es) h in
    let q : e ≡ 0 → ⊥ = eqb-false e 0 p.0 in
    (omega arith, no_zero_of es p.1)

pub no_zero_test : (es : List ℕ) → NoZero es → has_zero es ≡ false
no_zero_test [] h = refl
no_zero_test (e ∷ es) h =
    let q : e ≡ 0 → ⊥ = λ z. absurd (omega (arith, h.0)) in
    rw (ne_eqb e 0 q) (no_zero_test es h.1)

pub total_some : (es : List ℕ) → NoZero es → 0 < total es
total_some [] h = omega arith
total_some (e ∷ es) h = pos_mul e (total es) h.0 (total_some es h.1)

-- "no zero extent, total above 2^64 − 1"
pub row5-total : (es : List ℕ) → (row5 es).applies ≡ ltb max_u (total es)
row5-total es = go (has_zero es) refl
  where
    go : (b : Bool) → has_zero es ≡ b → (not b && ltb max_u (total es)) ≡ ltb max_u (total es)
    go true q = sym (le-ltb max_u (total es) (omega (arith, zero-total es q)))
    go false q = refl
