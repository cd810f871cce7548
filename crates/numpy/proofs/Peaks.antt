-- The greatest packed byte stride, axis by axis: one more axis behind makes each stride so many times greater, and has the size itself.
-- Assumes nothing.
use mathlib.Core.Path.{◌≡◌, refl, sym, ap, ◌∙◌}
use mathlib.Core.Logic.{⊎_elim}
use mathlib.Core.Bool.{Bool, true, false, not, ◌||◌}
use mathlib.Core.List.{List, [], ◌∷◌, ◌++◌}
use Prim.Native.Nat.{ℕ, zero, suc, ◌*◌, ◌^◌, ◌≤◌, ◌<◌, min, max}
use native.Mathlib.Nat.{mul-le-mul_right, mul-one, mul-zero, mul_assoc, max-eq_left, max-eq_right, zero-mul}
use native.Mathlib.Omega.{arith}
use lib.Dec.{ltb}
use borrow.Author.Tests.{ltb-true, ltb-false, lt-ltb, le-ltb}
use Rattle.strided.specs.Layout.{total}
use Rattle.laws.specs.Base.Ranges.{below_or}
use Rattle.std.specs.List.{list_any}
use Rattle.numpy.specs.Numpy.{packed, too_far}
use Rattle.numpy.specs.Readers.{most_of, Peaked}
use Rattle.numpy.specs.Reversing.{total-append}

-- the greater of two, times a number
max-mul : (a b e : ℕ) → max a b * e ≡ max (a * e) (b * e)
max-mul a b e =
    ⊎_elim
    (λ h. let l : a ≤ b = omega (arith, h) in ap (λ (n : ℕ). n * e) (max-eq_right l) ∙ sym (max-eq_right (mul-le-mul_right e l)))
    (λ h. ap (λ (n : ℕ). n * e) (max-eq_left h) ∙ sym (max-eq_left (mul-le-mul_right e h)))
    (below_or a b)

pub most_more : (size : ℕ) (es : List ℕ) (e : ℕ) → most_of (packed size (es ++ (e ∷ []))) ≡ max (most_of (packed size es) * e) size
most_more size [] e = let z = zero-mul e in let o = mul-one size in omega (arith, z, o)
most_more size (x ∷ es) e =
    let m : ℕ = most_of (packed size es) in
    let p : size * total (es ++ (e ∷ [])) ≡ size * total es * e = ap (λ (n : ℕ). size * n) (total-append es e) ∙ sym (mul_assoc size (total es) e) in
    let q = max-mul (size * total es) m e in
    let i = most_more size es e in
    omega (arith, p, q, i)

-- a factor of numbers that are alike below c
capped_mul : (a b c e : ℕ) → min a c ≡ min b c → min (a * e) c ≡ min (b * e) c
capped_mul a b c zero h = ap (λ (n : ℕ). min n c) (mul-zero a ∙ sym (mul-zero b))
capped_mul a b c (suc e) h =
    ⊎_elim
    (λ l. let s : a ≡ b = omega (arith, h, l) in ap (λ (n : ℕ). min (n * suc e) c) s)
    (λ l.
    let p : 1 ≤ suc e = omega arith in
    let x : a ≤ a * suc e = omega arith in
    let y : b ≤ b * suc e = omega arith in
    omega (arith, h, l, x, y))
    (below_or a c)

-- one turn: g is the greatest so far, n what the code makes of it
pub peaked_more : (size : ℕ) (g n m : ℕ) (es : List ℕ) (e : ℕ) → Peaked size g es → n ≡ min (g * e) 9223372036854775808 → m ≡ max n size → Peaked size m (es ++ (e ∷ []))
peaked_more size g n m es e h p q =
    let c = capped_mul g (most_of (packed size es)) (2 ^ 63) e h in
    let w = most_more size es e in
    omega (arith, c, w, p, q)

-- some stride is too far exactly if the greatest is
pub far-most : (ns : List ℕ) → list_any too_far ns ≡ ltb 9223372036854775807 (most_of ns)
far-most [] = refl
far-most (n ∷ ns) = go (ltb n (2 ^ 63)) refl (far-most ns)
  where
    go : (b : Bool) → ltb n (2 ^ 63) ≡ b → list_any too_far ns ≡ ltb 9223372036854775807 (most_of ns)
        → (not b || list_any too_far ns) ≡ ltb 9223372036854775807 (max n (most_of ns))
    go false e i = sym (lt-ltb 9223372036854775807 (max n (most_of ns)) (omega (arith, ltb-false n (2 ^ 63) e)))
    go true e i = i ∙ within (ltb 9223372036854775807 (most_of ns)) refl (ltb-true n (2 ^ 63) e)
      where
        within : (b : Bool) → ltb 9223372036854775807 (most_of ns) ≡ b → n < 2 ^ 63 → ltb 9223372036854775807 (most_of ns) ≡ ltb 9223372036854775807 (max n (most_of ns))
        within true f l = f ∙ sym (lt-ltb 9223372036854775807 (max n (most_of ns)) (omega (arith, ltb-true 9223372036854775807 (most_of ns) f)))
        within false f l = f ∙ sym (le-ltb 9223372036854775807 (max n (most_of ns)) (omega (arith, ltb-false 9223372036854775807 (most_of ns) f, l)))

-- the test on what the loop has found
pub peaked_test : (size g : ℕ) (es : List ℕ) → Peaked size g es → ltb 9223372036854775807 g ≡ list_any too_far (packed size es)
peaked_test size g es h = go (ltb 9223372036854775807 g) refl ∙ sym (far-most (packed size es))
  where
    go : (b : Bool) → ltb 9223372036854775807 g ≡ b → b ≡ ltb 9223372036854775807 (most_of (packed size es))
    go true e = sym (lt-ltb 9223372036854775807 (most_of (packed size es)) (omega (arith, ltb-true 9223372036854775807 g e, h)))
    go false e = sym (le-ltb 9223372036854775807 (most_of (packed size es)) (omega (arith, ltb-false 9223372036854775807 g e, h)))
