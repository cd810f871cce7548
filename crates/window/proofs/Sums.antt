-- The sum of first times stride, from axis 0 up: no partial sum leaves 64 bits. Assumes nothing.
use mathlib.Core.Path.{◌≡◌, refl, sym, ◌∙◌, subst}
use mathlib.Core.Bool.{Bool, true, false, cond}
use mathlib.Core.List.{List, [], ◌∷◌}
use mathlib.Core.Logic.{◌⊎◌, ⊎_elim}
use Prim.Native.Nat.{ℕ, suc, ◌+◌, ◌-◌, ◌*◌, ◌^◌, ◌≤◌, ◌<◌}
use native.Mathlib.Nat.{mul-le-mul_left, mul-one}
use native.Mathlib.Omega.{arith}
use lib.Dec.{ltb}
use lib.IntN.{ℤ, pos, negsuc, nat_abs, ◌+ℤ◌, ◌*ℤ◌, +ℤ_assoc, +ℤ_idl, +ℤ_idr}
use lib.ListN.{length}
use mir.Syntax.{w64}
use mir.Val.{SFits}
use borrow.Author.Tests.{ltb-true}
use Rattle.strided.specs.Layout.{dot, max_i}
use Rattle.laws.specs.Base.Integers.{nat_abs_mul, mag_size}
use Rattle.window.specs.Indices.{spread}

-- ---- sizes

sub_size : (a b : ℕ) → nat_abs (cond (ltb a b) (negsuc (b - suc a)) (pos (a - b))) ≤ a + b
sub_size a b = go (ltb a b) refl
  where
    go : (t : Bool) → ltb a b ≡ t → nat_abs (cond t (negsuc (b - suc a)) (pos (a - b))) ≤ a + b
    go true q = omega (arith, ltb-true a b q)
    go false q = omega arith

nat_abs_sum : (a b : ℤ) → nat_abs (a +ℤ b) ≤ nat_abs a + nat_abs b
nat_abs_sum (pos m) (pos n) = omega arith
nat_abs_sum (pos m) (negsuc n) = sub_size m (suc n)
nat_abs_sum (negsuc m) (pos n) = omega (arith, sub_size n (suc m))
nat_abs_sum (negsuc m) (negsuc n) = omega arith

pub size_fits : (z : ℤ) → nat_abs z ≤ max_i → SFits w64 z
size_fits z h = record { sfits = omega (arith, mag_size z) }

-- ---- one term

pub term_fits_lem : (f : ℕ) (t : ℤ) → f * nat_abs t ≤ max_i → SFits w64 (pos f *ℤ t)
term_fits_lem f t h = size_fits (pos f *ℤ t) (subst (λ (n : ℕ). n ≤ max_i) (sym (nat_abs_mul f t)) h)

-- beside a stride that is not 0 the first index is below 2^63
pub first_small : (f : ℕ) (t : ℤ) → f * nat_abs t ≤ max_i → 0 < nat_abs t → f < 2 ^ 63
first_small f t h p =
    let g : f * 1 ≤ f * nat_abs t = mul-le-mul_left f p in
    omega (arith, mul-one f)

-- ---- the loop

-- z is the sum of the axes that are passed, us and vs are left, and what is left of the sizes fits
pub record Summed (fs : List ℕ) (ts : List ℤ) (z : ℤ) (us : List ℕ) (vs : List ℤ) : Type 0 where
  pub long : length vs ≡ length us
  pub whole : z +ℤ dot us vs ≡ dot fs ts
  pub near : nat_abs z + spread us vs ≤ max_i

pub sum_start : {fs : List ℕ} {ts : List ℤ} {us : List ℕ} {vs : List ℤ} → length ts ≡ length fs → spread fs ts ≤ max_i → us ≡ fs → vs ≡ ts → Summed fs ts (pos 0) us vs
sum_start {fs} {ts} l n e f = rw (e, f) (record { long = l; whole = +ℤ_idl (dot fs ts); near = omega (arith, n) })

module _ {fs : List ℕ} {ts : List ℤ} {z : ℤ} {us : List ℕ} {vs : List ℤ} (s : Summed fs ts z us vs) where
  -- one axis is in front of others
  module _ {f : ℕ} {t : ℤ} {us' : List ℕ} {vs' : List ℤ} (p : us ≡ f ∷ us') (q : vs ≡ t ∷ vs') where
    here : Summed fs ts z (f ∷ us') (t ∷ vs')
    here = subst (λ (x : List ℕ). Summed fs ts z x (t ∷ vs')) p (subst (λ (y : List ℤ). Summed fs ts z us y) q s)

    pub term_near : f * nat_abs t ≤ max_i
    term_near = omega (arith, here.near)

    sum_small : nat_abs (z +ℤ pos f *ℤ t) + spread us' vs' ≤ max_i
    sum_small = omega (arith, nat_abs_sum z (pos f *ℤ t), nat_abs_mul f t, here.near)

    pub sum_fits_lem : SFits w64 (z +ℤ pos f *ℤ t)
    sum_fits_lem = size_fits (z +ℤ pos f *ℤ t) (omega (arith, sum_small))

    pub sum_turn : Summed fs ts (z +ℤ pos f *ℤ t) us' vs'
    sum_turn =
        let n : suc (length vs') ≡ suc (length us') = here.long in
        record { long = omega arith; whole = +ℤ_assoc z (pos f *ℤ t) (dot us' vs') ∙ here.whole; near = sum_small }

  -- none is left
  pub sum_end : (length us ≡ 0) ⊎ (length vs ≡ 0) → z ≡ dot fs ts
  sum_end o = ⊎_elim (λ (e : length us ≡ 0). go us e s) (λ (e : length vs ≡ 0). go us (omega (arith, e, s.long)) s) o
    where
      go : (xs : List ℕ) → length xs ≡ 0 → Summed fs ts z xs vs → z ≡ dot fs ts
      go [] e h = sym (+ℤ_idr z) ∙ h.whole
      go (x ∷ xs) e h = absurd (omega arith)
