-- The cases of `cut_blocks`, by the tests of the code and over the table that the code makes: the exits, declining, the fit.
-- That it holds the images of the definition's table is handed in as `are`. Assumes nothing.
use mathlib.Core.Path.{◌≡◌, refl, sym, ap, ◌∙◌}
use mathlib.Core.Bool.{Bool, true, false, cond, ◌||◌}
use mathlib.Core.List.{List}
use Prim.Native.Nat.{ℕ}
use native.Mathlib.Omega.{arith}
use lib.Dec.{leb, eqb}
use lib.IntN.{ℤ}
use lib.ListN.{length}
use borrow.Author.Tests.{eqb-true, eq-eqb, ne_eqb}
use Rattle.strided.specs.Base.{every}
use Rattle.strided.specs.Region.{byte_table, region}
use Rattle.strided.specs.Costs.{costs}
use Rattle.strided.specs.Cut.{plan_ranks, cutting}
use Rattle.strided.specs.Decline.{declined}
use Rattle.strided.specs.Fit.{fitted}
use Rattle.strided.specs.Plan.{grows, fitted_for, cut_blocks}
use Rattle.strided.specs.declared.Purpose.{Purpose}
use Rattle.strided.specs.declared.Purpose.TheVariants.{Pointwise, PointwiseInto, Fold}
use Rattle.strided.specs.declared.Machine.{Machine}
use Rattle.strided.specs.Machine.{Allowed}
use Rattle.laws.specs.Cut.Same.{SameCosts, SameRanks}
use Rattle.laws.specs.Cut.Image.{Images, region_exact, cutting_exact, fitted_exact}
use Rattle.laws.specs.Cut.Tables.{stride_size}
use Rattle.model.specs.Exits.{in_order, exits, ruled}

-- ---- the exits, by the tests of the code

-- no cut whatever the extents: no table is looked at
pub whole_in_order : (mc : Machine) (sizes es : List ℕ) (strides : List ℤ) (rank : ℕ) (u : Purpose) → in_order sizes strides rank ≡ true → cut_blocks mc sizes es strides rank u ≡ es
unfolding cut_blocks in_order
whole_in_order mc sizes es strides rank u e =
    rw (go (eqb rank 0) (leb (region mc (byte_table sizes strides) (length sizes) es 0 rank) mc.cache) (every (grows sizes strides rank) 0 (length sizes)) e)
  where
    go : (a b c : Bool) → a || c ≡ true → a || (b || c) ≡ true
    go true b c q = refl
    go false true c q = refl
    go false false c q = q

module _ (sizes : List ℕ) (strides : List ℤ) (rank : ℕ) where
  pub in_order_none : rank ≡ 0 → in_order sizes strides rank ≡ true
  unfolding in_order
  in_order_none e = rw (eq-eqb rank 0 e)

  pub in_order_some : (rank ≡ 0 → ⊥) → in_order sizes strides rank ≡ every (grows sizes strides rank) 0 (length sizes)
  unfolding in_order
  in_order_some n = rw (ne_eqb rank 0 n)

module _ (mc : Machine) (bytes sizes es : List ℕ) (strides : List ℤ) (rank : ℕ) where
  pub exits_fits : leb (region mc bytes (length sizes) es 0 rank) mc.cache ≡ true → exits mc bytes sizes es strides rank ≡ true
  unfolding exits
  exits_fits e = rw e (go (eqb rank 0))
    where
      go : (a : Bool) → a || true ≡ true
      go true = refl
      go false = refl

  pub exits-not : in_order sizes strides rank ≡ false → leb (region mc bytes (length sizes) es 0 rank) mc.cache ≡ false → exits mc bytes sizes es strides rank ≡ false
  unfolding exits in_order
  exits-not i e = rw e i

-- ---- the whole

module _ (mc : Machine) (sizes es : List ℕ) (strides : List ℤ) (rank : ℕ) (u : Purpose)
    (allow : Allowed mc) (bytes : List ℕ) (are : Images mc (length sizes) rank bytes (byte_table sizes strides)) where
  true_table : List ℕ
  true_table = byte_table sizes strides

  whole : cut_blocks mc sizes es strides rank u
      ≡ cond (exits mc true_table sizes es strides rank) es
      (cond (declined mc true_table sizes (length sizes) es rank (ruled mc sizes es strides rank)) es (fitted_for mc u true_table sizes strides rank (ruled mc sizes es strides rank)))
  unfolding cut_blocks exits ruled true_table
  whole = refl

  exits_is : exits mc bytes sizes es strides rank ≡ exits mc true_table sizes es strides rank
  unfolding exits true_table
  exits_is =
      ap (λ (r : ℕ). eqb rank 0 || (leb r mc.cache || every (grows sizes strides rank) 0 (length sizes)))
      (region_exact mc allow (length sizes) rank bytes (byte_table sizes strides) are es 0 rank (omega arith))

  fit_is : (v : Purpose) (b : List ℕ) → fitted_for mc v bytes sizes strides rank b ≡ fitted_for mc v true_table sizes strides rank b
  unfolding true_table
  fit_is Pointwise b = refl
  fit_is (Fold c) b = refl
  fit_is (PointwiseInto c) b = go (eqb (length sizes) 2) refl
    where
      go : (t : Bool) → eqb (length sizes) 2 ≡ t
          → cond t (fitted mc bytes sizes rank (stride_size strides c) b) b ≡ cond t (fitted mc (byte_table sizes strides) sizes rank (stride_size strides c) b) b
      go true e =
          fitted_exact mc allow (length sizes) rank bytes (byte_table sizes strides) are (omega (arith, eqb-true (length sizes) 2 e)) sizes (stride_size strides c) b
      go false e = refl

  pub whole-exits : exits mc bytes sizes es strides rank ≡ true → cut_blocks mc sizes es strides rank u ≡ es
  whole-exits e = whole ∙ rw (sym exits_is ∙ e)

  -- what the code cuts, with costs and ranks that say the same as the definition's
  pub ruled_is : (cs : List ℕ) → SameCosts rank cs (costs strides (length sizes) rank)
      → (ranks : List (List ℕ)) → SameRanks (length sizes) rank ranks (plan_ranks sizes strides rank)
      → cutting mc bytes (length sizes) cs ranks 0 rank es ≡ ruled mc sizes es strides rank
  unfolding ruled
  ruled_is cs even ranks ranked =
      cutting_exact mc allow (length sizes) rank bytes (byte_table sizes strides) are cs (costs strides (length sizes) rank) even
      ranks (plan_ranks sizes strides rank) ranked 0 rank (omega arith) es

  module _ (b : List ℕ) (is : b ≡ ruled mc sizes es strides rank) (on : exits mc bytes sizes es strides rank ≡ false) where
    declined_is : declined mc true_table sizes (length sizes) es rank (ruled mc sizes es strides rank) ≡ declined mc (byte_table sizes strides) sizes (length sizes) es rank b
    unfolding true_table
    declined_is = ap (declined mc (byte_table sizes strides) sizes (length sizes) es rank) (sym is)

    pub whole-declined : declined mc (byte_table sizes strides) sizes (length sizes) es rank b ≡ true → es ≡ cut_blocks mc sizes es strides rank u
    whole-declined d = sym (whole ∙ rw (sym exits_is ∙ on, declined_is ∙ d))

    pub whole-fitted : declined mc (byte_table sizes strides) sizes (length sizes) es rank b ≡ false → {c : List ℕ} → c ≡ fitted_for mc u bytes sizes strides rank b → c ≡ cut_blocks mc sizes es strides rank u
    whole-fitted d f =
        f
        ∙ sym (whole ∙ rw (sym exits_is ∙ on, declined_is ∙ d)
        (sym (ap (fitted_for mc u bytes sizes strides rank) is ∙ fit_is u (ruled mc sizes es strides rank))))
