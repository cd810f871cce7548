-- Sets of axes as bits; and the fit's definitions by an L1Sets are those by the byte strides. Assumes nothing.
use mathlib.Core.Path.{◌≡◌, refl, sym, ap, subst, subst⁻¹, ◌∙◌}
use mathlib.Core.List.{List}
use mathlib.Core.Logic.{⊎_elim}
use mathlib.Core.Bool.{Bool, true, false, cond, not, ◌&&◌}
use Prim.Native.Nat.{ℕ, zero, suc, ◌+◌, ◌-◌, ◌*◌, ◌/◌, ◌%◌, ◌^◌, ◌<◌, ◌≤◌, min}
use native.Mathlib.Nat.{add-le-add, le_refl, add_comm, pow-suc, zero-div, div-eq_of_lt, lt_of_lt_of_le, one-mul, mul-one, mul_assoc, zero-mul, mul-le-mul_left}
use native.Mathlib.Numerals.{add-one}
use native.Mathlib.Omega.{arith}
use lib.Dec.{ltb, leb, eqb}
use lib.ListN.{get_or, set}
use lib.Arith.{digits_lt}
use lib.Pow.{pow_mono, shl_exact, high, low, field, mod-mod-pow}
use lib.Seq.{set-set}
use mir.Val.{bool_byte}
use borrow.Author.Tests.{lt-ltb, le-ltb}
use Rattle.strided.specs.Base.{sum, product, greatest}
use Rattle.strided.specs.Fit.{reuse, counts, factor, load_of, load, enters_of, enters, most_of}
use Rattle.strided.specs.declared.Machine.{Machine}
use Rattle.laws.specs.Cut.Ranges.{le_or_lt, cond_same, cond_mono, product_none, product_more, product_termwise, product_cong}
use Rattle.laws.specs.Cut.Grow.{set_mono}
use Rattle.l1.specs.Live.{top, within, Holds, aliases_at, live_count, Live, Of, factor_by, product_by, load_by, enters_by, most_by}
use Rattle.l1.specs.declared.L1Sets.{L1Sets}
use Rattle.l1.specs.declared.live.LiveAxes.{LiveAxes}

-- ---- sets of axes

bit_small : (b : Bool) → bool_byte b < 2
bit_small true = omega arith
bit_small false = omega arith

bit_is : (b : Bool) → eqb (bool_byte b % 2) 1 ≡ b
bit_is true = refl
bit_is false = refl

-- a bit below the topmost
lower : (b l n i : ℕ) → l < 2 ^ n → i < n → (b * 2 ^ n + l) / 2 ^ i % 2 ≡ l / 2 ^ i % 2
lower b l n i h g =
    let x : ℕ = b * 2 ^ n + l in
    let d : ℕ = n - i - 1 in
    let e : d + 1 + i ≡ n = omega arith in
    sym (mod-mod-pow (x / 2 ^ i) d 1)
    ∙ ap (λ (y : ℕ). y % 2) (sym (field x (d + 1) i))
    ∙ ap (λ (y : ℕ). x % 2 ^ y / 2 ^ i % 2) e
    ∙ ap (λ (y : ℕ). y / 2 ^ i % 2) (low b n h)

pub holds_none : {t : ℕ → Bool} → Holds t 0 0
holds_none = record { below = omega arith; each = λ i. rw (zero-div (2 ^ i), le-ltb i 0 (omega arith)) }

-- a set with axis n, as the code makes it
pub holds_more : {t : ℕ → Bool} {n a : ℕ} (b : Bool) → Holds t n a → n < 64 → t n ≡ b → Holds t (n + 1) (a + bool_byte b * 2 ^ n % 2 ^ 64)
holds_more {t} {n} {a} b s h q = subst (Holds t (n + 1)) e (record { below = small; each = at })
  where
    e : bool_byte b * 2 ^ n + a ≡ a + bool_byte b * 2 ^ n % 2 ^ 64
    e = rw (shl_exact 1 n 64 (bit_small b) (omega arith)) (add_comm (bool_byte b * 2 ^ n) a)

    small : bool_byte b * 2 ^ n + a < 2 ^ (n + 1)
    small = rw (add-one n, pow-suc 2 n) (omega (arith, digits_lt (bit_small b) s.below))

    at : (i : ℕ) → within (bool_byte b * 2 ^ n + a) i ≡ ltb i (n + 1) && t i
    at i = ⊎_elim
        (λ (g : n + 1 ≤ i). rw (div-eq_of_lt (lt_of_lt_of_le small (pow_mono g)), le-ltb i (n + 1) g))
        (λ (g : i < n + 1). rw (lt-ltb i (n + 1) g) (⊎_elim
        (λ (l : n ≤ i). let e : i ≡ n = omega arith in rw (e, high (bool_byte b) n s.below) (bit_is b ∙ sym q))
        (λ (l : i < n). ap (λ (x : ℕ). eqb x 1) (lower (bool_byte b) a n i s.below l) ∙ s.each i ∙ ap (λ (x : Bool). x && t i) (lt-ltb i n l))
        (le_or_lt n i)))
        (le_or_lt (n + 1) i)

-- ---- one operand

-- its product one axis more at a time, as the code takes them
pub product_by_none : (l : LiveAxes) (b : List ℕ) → bool_byte (ltb 0 l.count) ≡ min (product_by l b 0) top
product_by_none l b = rw (product_none (factor_by l b), mul-one) (omega (arith, bit_small (ltb 0 l.count)))

pub product_by_more : (l : LiveAxes) (b : List ℕ) (i : ℕ) → product_by l b (i + 1) ≡ product_by l b i * factor_by l b i
product_by_more l b i = let t : ℕ = bool_byte (ltb 0 l.count) in
    ap (λ (x : ℕ). t * x) (product_more (factor_by l b) i) ∙ sym (mul_assoc t (product (factor_by l b) 0 i) (factor_by l b i))

module _ (mc : Machine) (bytes sizes : List ℕ) (rank k : ℕ) where
  -- an operand that counts has live axes, and one that does not has none
  live_cases : (P : Bool → ℕ → Type 0) → (0 < reuse mc bytes rank k → P true (reuse mc bytes rank k)) → P false 0
      → P (counts mc bytes sizes rank k) (live_count mc bytes (get_or sizes k 0) rank k)
  unfolding counts live_count
  live_cases P = go (eqb (get_or sizes k 0) 0) (ltb (reuse mc bytes rank k) rank) (reuse mc bytes rank k)
    where
      go : (z s : Bool) (r : ℕ) → (0 < r → P true r) → P false 0 → P (not z && (ltb 0 r && s)) (cond z 0 (cond s r 0))
      go true s r f g = g
      go false s zero f g = rw (cond_same {A = ℕ} s 0) g
      go false true (suc r) f g = rw (lt-ltb 0 (suc r) (omega arith)) (f (omega arith))
      go false false (suc r) f g = rw (lt-ltb 0 (suc r) (omega arith)) g

  module _ (l : LiveAxes) (is : Live mc bytes (get_or sizes k 0) rank k l) where
    -- what it contributes, and the axes that enter its product
    load_of_lem : (b : List ℕ) → load_of mc bytes sizes rank b k ≡ product_by l b l.count
    unfolding load_of
    load_of_lem b =
        let r : ℕ = reuse mc bytes rank k in
        live_cases (λ c n. l.count ≡ n → cond c (product (factor mc bytes b k) 0 r) 0 ≡ product_by l b l.count)
        (λ h e. subst⁻¹ (λ (n : ℕ). product (factor mc bytes b k) 0 r ≡ bool_byte (ltb 0 n) * product (factor_by l b) 0 n) e (rw (lt-ltb 0 r h, one-mul)
        (product_cong (factor mc bytes b k) (factor_by l b) 0 r
        (λ i p q. rw (is.aliased.each i ∙ ap (λ (n : ℕ). ltb i n && aliases_at mc bytes k i) e, lt-ltb i r (omega arith))))))
        (λ e. subst⁻¹ (λ (n : ℕ). 0 ≡ bool_byte (ltb 0 n) * product (factor_by l b) 0 n) e (sym (zero-mul (product (factor_by l b) 0 0))))
        is.count

    enters_of_lem : (i : ℕ) → enters_of mc bytes sizes rank i k ≡ within l.aliased i
    unfolding enters_of
    enters_of_lem i =
        let t : Bool = aliases_at mc bytes k i in
        live_cases (λ c n. l.count ≡ n → c && (ltb i (reuse mc bytes rank k) && t) ≡ ltb i l.count && t) (λ h e. rw e) (λ e. rw (e, le-ltb i 0 (omega arith))) is.count
        ∙ sym (is.aliased.each i)

-- ---- the fit's definitions

module _ (mc : Machine) (bytes sizes : List ℕ) (rank : ℕ) (s : L1Sets) (is : Of mc bytes sizes rank s) where
  pub load_by_lem : (b : List ℕ) → load mc bytes sizes rank b ≡ load_by s b
  unfolding load sum
  load_by_lem b = omega (arith, load_of_lem mc bytes sizes rank 0 s.first is.first b, load_of_lem mc bytes sizes rank 1 s.second is.second b)

  pub enters_by_lem : (i : ℕ) → enters mc bytes sizes rank i ≡ enters_by s i
  unfolding enters
  enters_by_lem i = rw (enters_of_lem mc bytes sizes rank 0 s.first is.first i, enters_of_lem mc bytes sizes rank 1 s.second is.second i)

  -- also where the block has been put at 1 before
  pub most_by_lem : (b : List ℕ) (i v : ℕ) → most_of mc bytes sizes rank b i ≡ most_by mc.live s (set b i v) i (get_or b i 0)
  unfolding most_of most_by
  most_by_lem b i v =
      (λ j. greatest (λ x. leb (load_by_lem (set b i x) j) mc.live) (get_or b i 0))
      ∙ (λ j. greatest (λ x. leb (load_by s (sym (set-set b i v x) j)) mc.live) (get_or b i 0))

-- ---- the load grows with each block

product_by_mono : (l : LiveAxes) (b b' : List ℕ) (n : ℕ) → ((i : ℕ) → get_or b i 0 ≤ get_or b' i 0) → product_by l b n ≤ product_by l b' n
product_by_mono l b b' n h =
    mul-le-mul_left (bool_byte (ltb 0 l.count))
    (product_termwise (factor_by l b) (factor_by l b') (λ i. cond_mono (within l.aliased i) (h i) (le_refl 1)) 0 n)

pub load_by_mono : (s : L1Sets) (b : List ℕ) (i x y : ℕ) → x ≤ y → load_by s (set b i x) ≤ load_by s (set b i y)
load_by_mono s b i x y h =
    let m = set_mono b i x y h in
    add-le-add (product_by_mono s.first (set b i x) (set b i y) s.first.count m) (product_by_mono s.second (set b i x) (set b i y) s.second.count m)
