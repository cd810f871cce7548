-- A number of 32 bits in place of a byte stride: itself if it has as many, else the one above the cache that leaves as much by the way. No rule of
-- cutting or fitting tells the two apart, whatever the record; declining goes by elements (Elements). Assumes nothing.
use Rattle.std.specs.Prelude.{◌≡◌, Bool, not, ◌&&◌, List, ℕ, ◌+◌, ◌*◌, ◌/◌, ◌%◌, ◌≤◌, ◌<◌, ltb, eqb}
use Rattle.std.proofs.Common.{sym, ap₂, ◌∙◌, subst, ⊎_elim, add_comm, mod-lt, mod-eq_of_lt, div-lt_iff_lt-mul, div-mul-le_self, arith, lt-ltb, le-ltb, ne_eqb}
use Rattle.std.proofs.Math.Path.{ap}
use Rattle.std.proofs.Math.Bool.{cond}
use Rattle.std.proofs.Math.Nat.{add-mul-mod_self_right}
use Rattle.strided.specs.Machine.{Allowed}
use Rattle.strided.specs.Region.{byte_at, region}
use Rattle.strided.specs.Cut.{cutting}
use Rattle.strided.specs.Fit.{aliases, fitted}
use Rattle.strided.specs.declared.Machine.{Machine}
use Rattle.laws.specs.Cut.Ranges.{le_or_lt}
use Rattle.laws.specs.Cut.Same.{Alike, AlikeBytes, SameRanks, SameCosts, region-same, cutting-same, fitted-same}

-- the first multiple of the way above the cache
abbrev pub beyond : Machine → ℕ
beyond mc = (mc.cache / mc.way + 1) * mc.way

unfoldable pub image : Machine → ℕ → ℕ
image mc x = cond (ltb x 4294967296) x (beyond mc + x % mc.way)

-- a table of byte strides, and one of their images on the plan's axes
abbrev pub Images : Machine → ℕ → ℕ → List ℕ → List ℕ → Type 0
Images mc operands rank images bytes = (k i : ℕ) → k < operands → i < rank → byte_at images k i ≡ image mc (byte_at bytes k i)

module _ (mc : Machine) where
  pub image_small : (x : ℕ) → x < 4294967296 → image mc x ≡ x
  unfolding image
  image_small x h = ap (λ (t : Bool). cond t x (beyond mc + x % mc.way)) (lt-ltb x 4294967296 h)

  pub image_big : (x : ℕ) → 4294967296 ≤ x → image mc x ≡ beyond mc + x % mc.way
  unfolding image
  image_big x h = ap (λ (t : Bool). cond t x (beyond mc + x % mc.way)) (le-ltb x 4294967296 h)

module _ (mc : Machine) (a : Allowed mc) where
  some_way : 0 < mc.way
  some_way = omega (arith, a.way_from, a.line_from)

  past_cache : mc.cache < beyond mc
  past_cache = (div-lt_iff_lt-mul {k = mc.way} {x = mc.cache} {y = mc.cache / mc.way + 1} some_way).0 (omega arith)

  -- it is at most the cache and a way more, and what follows a byte stride's remainder has 22 bits
  pub beyond_le : beyond mc ≤ mc.cache + mc.way
  beyond_le = omega (arith, div-mul-le_self mc.cache mc.way)

  pub rest_lt : (x : ℕ) → x % mc.way < mc.way
  rest_lt x = mod-lt x some_way

  pub image_lt : (x : ℕ) → image mc x < 4294967296
  image_lt x = ⊎_elim
      (λ (h : 4294967296 ≤ x). omega (arith, image_big mc x h, beyond_le, rest_lt x, a.cache_to, a.way_to))
      (λ (h : x < 4294967296). omega (arith, image_small mc x h))
      (le_or_lt 4294967296 x)

  -- what is told of the image is told of the byte stride, if it is so of those that do not have 32 bits
  by_image : {A : Type 0} (f : ℕ → A) → ((x : ℕ) → 4294967296 ≤ x → f (beyond mc + x % mc.way) ≡ f x) → (x : ℕ) → f (image mc x) ≡ f x
  by_image f h x = ⊎_elim
      (λ (g : 4294967296 ≤ x). ap f (image_big mc x g) ∙ h x g)
      (λ (g : x < 4294967296). ap f (image_small mc x g))
      (le_or_lt 4294967296 x)

  -- neither is below the line
  line_not : (x : ℕ) → 4294967296 ≤ x → ltb (beyond mc + x % mc.way) mc.line ≡ ltb x mc.line
  line_not x g =
      le-ltb (beyond mc + x % mc.way) mc.line (omega (arith, past_cache, a.line_to, a.cache_from))
      ∙ sym (le-ltb x mc.line (omega (arith, a.line_to)))

  near_none : (n x : ℕ) → 4294967296 ≤ x
      → cond (ltb (beyond mc + x % mc.way) mc.line) ((beyond mc + x % mc.way) * n) 0 ≡ cond (ltb x mc.line) (x * n) 0
  near_none n x g =
      let y : ℕ = beyond mc + x % mc.way in
      ap (λ (t : Bool). cond t (y * n) 0) (le-ltb y mc.line (omega (arith, past_cache, a.line_to, a.cache_from)))
      ∙ sym (ap (λ (t : Bool). cond t (x * n) 0) (le-ltb x mc.line (omega (arith, a.line_to))))

  -- both are above the cache
  cache_both : (x : ℕ) → 4294967296 ≤ x → ltb mc.cache (beyond mc + x % mc.way) ≡ ltb mc.cache x
  cache_both x g =
      lt-ltb mc.cache (beyond mc + x % mc.way) (omega (arith, past_cache)) ∙ sym (lt-ltb mc.cache x (omega (arith, a.cache_to)))

  -- they leave the same, and neither is 0
  way_both : (x : ℕ) → 4294967296 ≤ x → aliases mc (beyond mc + x % mc.way) ≡ aliases mc x
  way_both x g =
      let y : ℕ = beyond mc + x % mc.way in
      let e : y % mc.way ≡ x % mc.way =
      ap (λ (z : ℕ). z % mc.way) (add_comm (beyond mc) (x % mc.way))
      ∙ add-mul-mod_self_right (x % mc.way) (mc.cache / mc.way + 1) mc.way ∙ mod-eq_of_lt (rest_lt x) in
      ap₂ (λ (t : Bool) (r : ℕ). not t && eqb r 0)
      (ne_eqb y 0 (λ q. absurd (omega (arith, past_cache))) ∙ sym (ne_eqb x 0 (λ q. absurd (omega arith)))) e

  pub image_alike : (x : ℕ) → Alike mc (image mc x) x
  image_alike x =
      record {
        line = by_image (λ y. ltb y mc.line) line_not x;
        near = λ n. by_image (λ y. cond (ltb y mc.line) (y * n) 0) (near_none n) x;
        cache = by_image (λ y. ltb mc.cache y) cache_both x;
        way = by_image (aliases mc) way_both x;
      }

  -- ---- a table of images

  module _ (operands rank : ℕ) (images bytes : List ℕ) (are : Images mc operands rank images bytes) where
    images_alike : AlikeBytes mc operands rank images bytes
    images_alike k i h l = subst (λ (x : ℕ). Alike mc x (byte_at bytes k i)) (sym (are k i h l)) (image_alike (byte_at bytes k i))

    pub region_exact : (b : List ℕ) (o n : ℕ) → o + n ≤ rank → region mc images operands b o n ≡ region mc bytes operands b o n
    region_exact = region-same mc operands rank images bytes images_alike

    -- CUTTING AND THE FIT FROM THE IMAGES ARE THOSE FROM THE BYTE STRIDES
    pub cutting_exact : (costs costs' : List ℕ) → SameCosts rank costs costs' → (table table' : List (List ℕ)) → SameRanks operands rank table table'
        → (o n : ℕ) → o + n ≤ rank → (b : List ℕ) → cutting mc images operands costs table o n b ≡ cutting mc bytes operands costs' table' o n b
    cutting_exact costs costs' even table table' ranked o n h b =
        cutting-same mc operands rank images bytes images_alike costs costs' even table table' ranked n o h b

    pub fitted_exact : 2 ≤ operands → (sizes : List ℕ) (chosen : ℕ → ℕ) (b : List ℕ) → fitted mc images sizes rank chosen b ≡ fitted mc bytes sizes rank chosen b
    fitted_exact two sizes chosen b = fitted-same mc operands rank images bytes images_alike two sizes chosen b
