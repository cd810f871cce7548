-- Declining in elements. An operand's size is a common factor of its byte strides, its width and its spans: no comparison needs it, and a
-- multiple of the line follows from two remainders. So the sums are within 1 + reach, which row 6 bounds. Assumes nothing.
use Rattle.std.specs.Prelude.{◌≡◌, refl, Bool, true, false, cond, ◌&&◌, List, ltb}
use Rattle.std.proofs.Math.Path.{sym, ap, ap₂}
use Rattle.std.proofs.Common.{◌∙◌, ⊎_elim, mul_assoc, mul_comm, add-mul, add_comm, zero-mul, mul-le-mul_right, mul-lt-mul_of_pos_right, div-add-mod', arith, lt-ltb, le-ltb, le-leb, eq-eqb, ne_eqb}
use Prim.Native.Nat.{ℕ, ◌+◌, ◌-◌, ◌*◌, ◌/◌, ◌%◌, ◌≤◌, ◌<◌}
use Rattle.std.proofs.Math.Nat.{add-mul-mod_self_right}
use Rattle.std.proofs.Math.Dec.{leb, eqb}
use Rattle.std.proofs.Math.ListN.{get_or}
use Rattle.std.proofs.lemmas.Bool.{lt-leb}
use Rattle.strided.specs.Base.{sum, every}
use Rattle.strided.specs.Region.{byte_at}
use Rattle.strided.specs.Decline.{width_of, passes}
use Rattle.strided.specs.declared.Machine.{Machine}
use Rattle.laws.specs.Base.Ranges.{below_or}
use Rattle.laws.specs.Cut.Ranges.{sum_cong, sum_scale, every_cong}
use Rattle.laws.specs.Cut.Rising.{before, way_of, adds, keeps_apart, apart_each}

-- n elements of a size are whole lines
abbrev pub whole_lines : Machine → ℕ → ℕ → Bool
whole_lines mc size n = eqb (n * size % mc.line) 0

-- the elements that a slab spans, over the axes before the cut; f gives the stride sizes
unfoldable pub slab : (ℕ → ℕ) → List ℕ → ℕ → ℕ
slab f es cut = 1 + sum (way_of f es) 0 cut

-- axis i, of the n from o on, keeps slabs of w elements apart
unfoldable pub separates : Machine → ℕ → (ℕ → ℕ) → List ℕ → ℕ → ℕ → ℕ → ℕ → Bool
separates mc size f es o n w i = whole_lines mc size (f i) && leb (w + sum (adds f es i) o n) (f i)

-- ---- a common factor in remainders and comparisons

mod-left : (n a b : ℕ) → a % n * b % n ≡ a * b % n
mod-left n a b =
    let e : a * b ≡ a % n * b + a / n * b * n =
    ap (λ (x : ℕ). x * b) (sym (div-add-mod' a n)) ∙ add-mul (a / n * n) (a % n) b ∙ add_comm (a / n * n * b) (a % n * b)
    ∙ ap (λ (x : ℕ). a % n * b + x) (mul_assoc (a / n) n b ∙ ap (λ (x : ℕ). a / n * x) (mul_comm n b) ∙ sym (mul_assoc (a / n) b n)) in
    sym (ap (λ (x : ℕ). x % n) e ∙ add-mul-mod_self_right (a % n * b) (a / n * b) n)

-- the remainder of a product, from those of its factors
pub mod_both : (n a b : ℕ) → a % n * (b % n) % n ≡ a * b % n
mod_both n a b =
    mod-left n a (b % n) ∙ ap (λ (x : ℕ). x % n) (mul_comm a (b % n)) ∙ mod-left n b a ∙ ap (λ (x : ℕ). x % n) (mul_comm b a)

module _ (a b c : ℕ) (p : 0 < c) where
  scale_ltb : ltb (a * c) (b * c) ≡ ltb a b
  scale_ltb = ⊎_elim
      (λ (h : a < b). lt-ltb (a * c) (b * c) (mul-lt-mul_of_pos_right h p) ∙ sym (lt-ltb a b h))
      (λ (h : b ≤ a). le-ltb (a * c) (b * c) (mul-le-mul_right c h) ∙ sym (le-ltb a b h))
      (below_or a b)

  scale_leb : leb (a * c) (b * c) ≡ leb a b
  scale_leb = ⊎_elim
      (λ (h : b < a). lt-leb (a * c) (b * c) (mul-lt-mul_of_pos_right h p) ∙ sym (lt-leb a b h))
      (λ (h : a ≤ b). le-leb (a * c) (b * c) (mul-le-mul_right c h) ∙ sym (le-leb a b h))
      (below_or b a)

  scale_eqb : eqb (a * c) (b * c) ≡ eqb a b
  scale_eqb = ⊎_elim
      (λ (h : a < b).
      let l : a * c < b * c = mul-lt-mul_of_pos_right h p in
      ne_eqb (a * c) (b * c) (λ e. omega arith) ∙ sym (ne_eqb a b (λ e. omega arith)))
      (λ (h : b ≤ a). ⊎_elim
      (λ (g : b < a).
      let l : b * c < a * c = mul-lt-mul_of_pos_right g p in
      ne_eqb (a * c) (b * c) (λ e. omega arith) ∙ sym (ne_eqb a b (λ e. omega arith)))
      (λ (g : a ≤ b).
      let e : a ≡ b = omega arith in
      eq-eqb (a * c) (b * c) (ap (λ (x : ℕ). x * c) e) ∙ sym (eq-eqb a b e))
      (below_or b a))
      (below_or a b)

-- ---- strides g that are c times the strides f, on the first rank axes

module _ (f g : ℕ → ℕ) (es : List ℕ) (c rank : ℕ) (is : (i : ℕ) → i < rank → g i ≡ f i * c) where
  way_scale : (j : ℕ) → j < rank → way_of g es j ≡ way_of f es j * c
  way_scale j h = ap (λ (x : ℕ). (get_or es j 0 - 1) * x) (is j h) ∙ sym (mul_assoc (get_or es j 0 - 1) (f j) c)

  sums_scale : (n : ℕ) → n ≤ rank → sum (way_of g es) 0 n ≡ sum (way_of f es) 0 n * c
  sums_scale n h =
      sum_cong (way_of g es) (λ i. way_of f es i * c) 0 n (λ i p q. way_scale i (omega arith))
      ∙ sum_scale (way_of f es) (λ i. way_of f es i * c) c (λ i. refl) 0 n

  module _ (p : 0 < c) where
    before_scale : (i j : ℕ) → i < rank → j < rank → before g i j ≡ before f i j
    before_scale i j h l =
        ap₂ (λ (x y : ℕ). cond (eqb x y) (ltb j i) (ltb x y)) (is j l) (is i h)
        ∙ ap₂ (λ (t u : Bool). cond t (ltb j i) u) (scale_eqb (f j) (f i) c p) (scale_ltb (f j) (f i) c p)

    adds_scale : (i j : ℕ) → i < rank → j < rank → adds g es i j ≡ adds f es i j * c
    adds_scale i j h l =
        ap₂ (λ (t : Bool) (x : ℕ). cond t x 0) (before_scale i j h l) (way_scale j l)
        ∙ go (before f i j) (way_of f es j)
      where
        go : (t : Bool) (x : ℕ) → cond t (x * c) 0 ≡ cond t x 0 * c
        go true x = refl
        go false x = sym (zero-mul c)

    -- the test at one axis needs the factor for the line only
    separates_scale : (mc : Machine) (o n w i : ℕ) → o + n ≤ rank → i < rank → keeps_apart mc g es o n (w * c) i ≡ separates mc c f es o n w i
    unfolding keeps_apart separates
    separates_scale mc o n w i h l =
        let s : ℕ = sum (adds f es i) o n in
        let e : w * c + sum (adds g es i) o n ≡ (w + s) * c =
        ap (λ (x : ℕ). w * c + x)
        (sum_cong (adds g es i) (λ j. adds f es i j * c) o n (λ j a b. adds_scale i j l (omega arith))
        ∙ sum_scale (adds f es i) (λ j. adds f es i j * c) c (λ j. refl) o n)
        ∙ sym (add-mul w s c) in
        ap₂ (λ (x y : ℕ). eqb (x % mc.line) 0 && leb y x) (is i l) e
        ∙ ap (λ (t : Bool). whole_lines mc c (f i) && t) (scale_leb (w + s) (f i) c p)

-- ---- one operand

module _ (mc : Machine) (bytes sizes es : List ℕ) (f : ℕ → ℕ) (cut rank k : ℕ) (h : cut ≤ rank)
    (is : (i : ℕ) → i < rank → byte_at bytes k i ≡ f i * get_or sizes k 0) where
  -- the width is the slab's elements, each of the size
  width_is : width_of bytes sizes es cut k ≡ slab f es cut * get_or sizes k 0
  unfolding width_of slab
  width_is = omega (arith, sums_scale f (byte_at bytes k) es (get_or sizes k 0) rank is cut h)

  -- where the size is not 0, the operand passes by its elements
  pub passes_elements : 0 < get_or sizes k 0
      → passes mc bytes sizes es cut rank k
      ≡ (whole_lines mc (get_or sizes k 0) (slab f es cut) && every (separates mc (get_or sizes k 0) f es cut (rank - cut) (slab f es cut)) cut (rank - cut))
  unfolding passes
  passes_elements p =
      let c : ℕ = get_or sizes k 0 in
      let w : ℕ = width_of bytes sizes es cut k in
      let v : ℕ = slab f es cut in
      let g : ℕ → ℕ = byte_at bytes k in
      rw (ne_eqb (get_or sizes k 0) 0 (λ e. omega arith))
      (ap (λ (t : Bool). eqb (w % mc.line) 0 && t) (apart_each g mc es cut (rank - cut) w)
      ∙ ap (λ (x : ℕ). eqb (x % mc.line) 0 && every (keeps_apart mc g es cut (rank - cut) x) cut (rank - cut)) width_is
      ∙ ap (λ (t : Bool). whole_lines mc c v && t)
      (every_cong (keeps_apart mc g es cut (rank - cut) (v * c)) (separates mc c f es cut (rank - cut) v) cut (rank - cut)
      (λ i a b. separates_scale f g es c rank is p mc cut (rank - cut) v i (omega arith) (omega arith))))
