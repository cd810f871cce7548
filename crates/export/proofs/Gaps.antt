-- Strides held against the products of extents, axis by axis from axis 0 on.
-- Assumes nothing.
use mathlib.Core.Path.{◌≡◌, refl, ap₂, ◌∙◌, subst}
use mathlib.Core.Logic.{◌⊎◌, ⊎_elim}
use mathlib.Core.List.{List, [], ◌∷◌}
use Prim.Native.Nat.{ℕ, zero, suc, ◌*◌, ◌≤◌, ◌<◌}
use native.Mathlib.Nat.{one-mul, mul_assoc, mul-zero, le-mul_of_pos_right}
use native.Mathlib.Omega.{arith}
use lib.IntN.{ℤ, pos}
use lib.ListN.{length}
use Rattle.strided.specs.Layout.{total}
use Rattle.export.specs.Packed.{packed_from}

factor_le : (a b t : ℕ) → a * b ≡ t → 0 < t → a ≤ t
factor_le a zero t e h = absurd (let q : a * 0 ≡ 0 = mul-zero a in let z : ⊥ = omega (arith, q, e, h) in z)
factor_le a (suc b) t e h = let m : a ≤ a * suc b = le-mul_of_pos_right a (omega arith) in omega (arith, m, e)

-- the axes that are passed have n cells, and the strides ts are those of cells without gaps if those that are left, vs, go on so
pub record Rest (es : List ℕ) (ts : List ℤ) (n : ℕ) (us : List ℕ) (vs : List ℤ) : Type 0 where
  pub long : length vs ≡ length us
  pub cells : n * total us ≡ total es
  pub packed : vs ≡ packed_from n us → ts ≡ packed_from 1 es

pub rest_start : {es : List ℕ} {ts : List ℤ} {us : List ℕ} {vs : List ℤ} → length ts ≡ length es → us ≡ es → vs ≡ ts → Rest es ts 1 us vs
rest_start {es} {ts} l e f = rw (e, f) (record { long = l; cells = one-mul (total es); packed = λ q. q })

module _ {es : List ℕ} {ts : List ℤ} {n : ℕ} {us : List ℕ} {vs : List ℤ} (r : Rest es ts n us vs) where
  -- one axis is in front of others
  module _ {e : ℕ} {t : ℤ} {us' : List ℕ} {vs' : List ℤ} (p : us ≡ e ∷ us') (q : vs ≡ t ∷ vs') where
    here : Rest es ts n (e ∷ us') (t ∷ vs')
    here = subst (λ (x : List ℕ). Rest es ts n x (t ∷ vs')) p (subst (λ (y : List ℤ). Rest es ts n us y) q r)

    product : n * e * total us' ≡ total es
    product = mul_assoc n e (total us') ∙ here.cells

    pub rest_fits : 0 < total es → n * e ≤ total es
    rest_fits some = factor_le (n * e) (total us') (total es) product some

    pub rest_turn : t ≡ pos n → Rest es ts (n * e) us' vs'
    rest_turn h =
        let l : suc (length vs') ≡ suc (length us') = here.long in
        record { long = omega arith; cells = product; packed = λ f. here.packed (ap₂ (λ (z : ℤ) (zs : List ℤ). z ∷ zs) h f) }

  -- none is left
  pub rest_end : (length us ≡ 0) ⊎ (length vs ≡ 0) → (n ≡ total es) × (ts ≡ packed_from 1 es)
  rest_end o = ⊎_elim (λ (e : length us ≡ 0). go us vs e (omega (arith, e, r.long)) r) (λ (e : length vs ≡ 0). go us vs (omega (arith, e, r.long)) e r) o
    where
      go : (xs : List ℕ) (ys : List ℤ) → length xs ≡ 0 → length ys ≡ 0 → Rest es ts n xs ys → (n ≡ total es) × (ts ≡ packed_from 1 es)
      go [] [] d e h = (let q : n * 1 ≡ total es = h.cells in omega (arith, q), h.packed refl)
      go (x ∷ xs) ys d e h = absurd (omega arith)
      go [] (y ∷ ys) d e h = absurd (omega arith)
