-- Laws of signed offsets: a product of a distance and a stride, and a move along an axis. Assumes nothing.
use mathlib.Core.Path.{◌≡◌, refl, sym, ap, ◌∙◌, subst}
use mathlib.Core.Bool.{Bool, cond}
use Prim.Native.Nat.{ℕ, zero, suc, zero-le, ◌+◌, ◌-◌, ◌*◌, ◌^◌, ◌≤◌, ◌<◌}
use native.Mathlib.Nat.{le_refl, lt_of_le_of_lt, mul-le-mul_left, mul-one, zero-mul}
use native.Mathlib.Omega.{arith}
use lib.IntN.{ℤ, pos, negsuc, neg_ℤ, neg_ℤ-neg_ℤ, nat_abs, sub_ℕ, ◌+ℤ◌, ◌-ℤ◌, ◌*ℤ◌, *ℤ-zero, +ℤ_idr}
use lib.Signed.{mag}
use mir.Syntax.{w64}
use mir.Val.{SFits, to_z, of_z}
use mir.Facts.{to_z-of_z, to_z_pos}
use borrow.Author.Tests.{lt-ltb, le-ltb}
use Rattle.advance.specs.Moves.{Moves, after_move}

-- ---- products

mag_neg : (r : ℕ) → mag (neg_ℤ (pos r)) ≤ r
mag_neg zero = zero-le
mag_neg (suc r) = omega arith

pub mag_mul : (d : ℕ) (s : ℤ) → mag (pos d *ℤ s) ≤ d * nat_abs s
mag_mul d (pos n) = le_refl (d * n)
mag_mul d (negsuc n) = mag_neg (d * suc n)

pub neg-mul : (d : ℕ) (s : ℤ) → neg_ℤ (pos d) *ℤ s ≡ neg_ℤ (pos d *ℤ s)
neg-mul zero (pos n) = ap pos (zero-mul n) ∙ sym (ap (λ (k : ℕ). neg_ℤ (pos k)) (zero-mul n))
neg-mul zero (negsuc n) = ap (λ (k : ℕ). neg_ℤ (pos k)) (zero-mul (suc n)) ∙ sym (ap (λ (k : ℕ). neg_ℤ (neg_ℤ (pos k))) (zero-mul (suc n)))
neg-mul (suc d) (pos n) = refl
neg-mul (suc d) (negsuc n) = sym (neg_ℤ-neg_ℤ (pos (suc d * suc n)))

-- a stride that is not 0 has a size above 0
pub nonzero : (s : ℤ) → (of_z w64 s ≡ 0 → ⊥) → SFits w64 s → 1 ≤ nat_abs s
nonzero (pos zero) h f = absurd (h refl)
nonzero (pos (suc n)) h f = omega arith
nonzero (negsuc n) h f = omega arith

-- ---- differences

pub ahead : (from to : ℕ) → from ≤ to → sub_ℕ to from ≡ pos (to - from)
ahead from to h = ap (λ (t : Bool). cond t (negsuc (from - suc to)) (pos (to - from))) (le-ltb to from h)

neg-suc : (k : ℕ) → 1 ≤ k → negsuc (k - 1) ≡ neg_ℤ (pos k)
neg-suc zero h = absurd (let z : ⊥ = omega arith in z)
neg-suc (suc k) h = ap negsuc (omega arith)

pub behind : (from to : ℕ) → to < from → sub_ℕ to from ≡ neg_ℤ (pos (from - to))
behind from to h =
    ap (λ (t : Bool). cond t (negsuc (from - suc to)) (pos (to - from))) (lt-ltb to from h)
    ∙ ap negsuc (let e : from - suc to ≡ (from - to) - 1 = omega arith in e) ∙ neg-suc (from - to) (omega arith)

-- ---- a move

module _ (s : ℤ) (fs : SFits w64 s) (d : ℕ) (span : d * nat_abs s < 2 ^ 63) (nz : 1 ≤ nat_abs s) where
  pub small : d < 2 ^ 63
  small = lt_of_le_of_lt (subst (λ (k : ℕ). k ≤ d * nat_abs s) (mul-one d) (mul-le-mul_left d nz)) span

  pub product : to_z w64 d *ℤ to_z w64 (of_z w64 s) ≡ pos d *ℤ s
  product = ap (λ (z : ℤ). z *ℤ to_z w64 (of_z w64 s)) (to_z_pos w64 small) ∙ ap (λ (z : ℤ). pos d *ℤ z) (to_z-of_z fs)

  pub product_fits : SFits w64 (pos d *ℤ s)
  product_fits = record { sfits = lt_of_le_of_lt (mag_mul d s) span }

  -- as the code reads it back from its local's bits
  pub product_read : to_z w64 (of_z w64 (to_z w64 d *ℤ to_z w64 (of_z w64 s))) ≡ pos d *ℤ s
  product_read = ap (λ (z : ℤ). to_z w64 (of_z w64 z)) product ∙ to_z-of_z product_fits

-- a sum of two numbers that lie in locals, read back from its local's bits
pub sum_read : (o x : ℤ) (bits : ℕ) → SFits w64 o → to_z w64 bits ≡ x → to_z w64 (of_z w64 o) +ℤ to_z w64 bits ≡ o +ℤ x
sum_read o x bits fo e = ap (λ (z : ℤ). z +ℤ to_z w64 bits) (to_z-of_z fo) ∙ ap (λ (z : ℤ). o +ℤ z) e

pub difference_read : (o x : ℤ) (bits : ℕ) → SFits w64 o → to_z w64 bits ≡ x → to_z w64 (of_z w64 o) -ℤ to_z w64 bits ≡ o -ℤ x
difference_read o x bits fo e = ap (λ (z : ℤ). z -ℤ to_z w64 bits) (to_z-of_z fo) ∙ ap (λ (z : ℤ). o -ℤ z) e

module _ (o s : ℤ) (from to : ℕ) (fo : SFits w64 o) (fs : SFits w64 s) (m : Moves o s from to) where
  -- no stride: the offset stays
  pub stays : of_z w64 s ≡ 0 → to_z w64 (of_z w64 o) ≡ after_move o s from to
  unfolding after_move
  stays h =
      let e : s ≡ pos 0 = sym (to_z-of_z fs) ∙ ap (to_z w64) h in
      to_z-of_z fo ∙ sym (ap (λ (z : ℤ). o +ℤ sub_ℕ to from *ℤ z) e ∙ ap (λ (z : ℤ). o +ℤ z) (*ℤ-zero (sub_ℕ to from)) ∙ +ℤ_idr o)

  module _ (nz : of_z w64 s ≡ 0 → ⊥) where
    module _ (le : from ≤ to) where
      abbrev d : ℕ
      d = to - from

      span : d * nat_abs s < 2 ^ 63
      span = subst (λ (k : ℕ). k * nat_abs s < 2 ^ 63) (let e : (to - from) + (from - to) ≡ to - from = omega arith in e) m.span

      sum : to_z w64 (of_z w64 o) +ℤ to_z w64 (of_z w64 (to_z w64 d *ℤ to_z w64 (of_z w64 s))) ≡ after_move o s from to
      unfolding after_move
      sum = sum_read o (pos d *ℤ s) (of_z w64 (to_z w64 d *ℤ to_z w64 (of_z w64 s))) fo (product_read s fs d span (nonzero s nz fs)) ∙ ap (λ (z : ℤ). o +ℤ z *ℤ s) (sym (ahead from to le))

      pub ahead-add : SFits w64 (to_z w64 (of_z w64 o) +ℤ to_z w64 (of_z w64 (to_z w64 d *ℤ to_z w64 (of_z w64 s))))
      ahead-add = subst (SFits w64) (sym sum) m.lands

      pub ahead_is : to_z w64 (of_z w64 (to_z w64 (of_z w64 o) +ℤ to_z w64 (of_z w64 (to_z w64 d *ℤ to_z w64 (of_z w64 s))))) ≡ after_move o s from to
      ahead_is = ap (λ (z : ℤ). to_z w64 (of_z w64 z)) sum ∙ to_z-of_z m.lands

    module _ (lt : to < from) where
      abbrev d' : ℕ
      d' = from - to

      span' : d' * nat_abs s < 2 ^ 63
      span' = subst (λ (k : ℕ). k * nat_abs s < 2 ^ 63) (let e : (to - from) + (from - to) ≡ from - to = omega arith in e) m.span

      pub behind_mul : SFits w64 (to_z w64 d' *ℤ to_z w64 (of_z w64 s))
      behind_mul = subst (SFits w64) (sym (product s fs d' span' (nonzero s nz fs))) (product_fits s fs d' span' (nonzero s nz fs))

      sum' : to_z w64 (of_z w64 o) -ℤ to_z w64 (of_z w64 (to_z w64 d' *ℤ to_z w64 (of_z w64 s))) ≡ after_move o s from to
      unfolding after_move
      sum' =
          difference_read o (pos d' *ℤ s) (of_z w64 (to_z w64 d' *ℤ to_z w64 (of_z w64 s))) fo (product_read s fs d' span' (nonzero s nz fs))
          ∙ ap (λ (z : ℤ). o +ℤ z) (sym (neg-mul d' s)) ∙ ap (λ (z : ℤ). o +ℤ z *ℤ s) (sym (behind from to lt))

      pub behind_sub : SFits w64 (to_z w64 (of_z w64 o) -ℤ to_z w64 (of_z w64 (to_z w64 d' *ℤ to_z w64 (of_z w64 s))))
      behind_sub = subst (SFits w64) (sym sum') m.lands

      pub behind_is : to_z w64 (of_z w64 (to_z w64 (of_z w64 o) -ℤ to_z w64 (of_z w64 (to_z w64 d' *ℤ to_z w64 (of_z w64 s))))) ≡ after_move o s from to
      behind_is = ap (λ (z : ℤ). to_z w64 (of_z w64 z)) sum' ∙ to_z-of_z m.lands

-- ---- numbers that lie in locals: what is read back from the bits is the number

pub moves_read : (o s : ℤ) (from to : ℕ) → SFits w64 o → SFits w64 s → Moves o s from to → Moves (to_z w64 (of_z w64 o)) (to_z w64 (of_z w64 s)) from to
moves_read o s from to fo fs m = subst (λ (z : ℤ). Moves z (to_z w64 (of_z w64 s)) from to) (sym (to_z-of_z fo)) (subst (λ (z : ℤ). Moves o z from to) (sym (to_z-of_z fs)) m)

pub after_read : (o s : ℤ) (from to : ℕ) → SFits w64 o → SFits w64 s → after_move (to_z w64 (of_z w64 o)) (to_z w64 (of_z w64 s)) from to ≡ after_move o s from to
after_read o s from to fo fs = λ i. after_move (to_z-of_z fo i) (to_z-of_z fs i) from to
