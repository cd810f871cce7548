-- TWO CELLS that are numbers, where there are extremes: the lesser of both replaces the least where one of them would, and the greater the
-- greatest. Assumes nothing.
use Rattle.std.specs.Prelude.{◌≡◌, refl, Bool, true, false, cond, ◌+◌, Float}
use Rattle.std.proofs.Common.{ap, ◌∙◌, arith}
use Rattle.std.specs.Float.Ieee.{lt, is_nan}
use Rattle.summary.specs.declared.cell.Summary.{Summary}
use Rattle.summary.specs.Sums.{with_sum, lesser, greater, with_number, with_cell}
use Rattle.summary.specs.Ordered.{lt_trans_float, not_lt_trans}
use Rattle.summary.proofs.Steps.{at-number}

-- x where it comes before e
abbrev first : (Float → Float → Bool) → Float → Float → Float
first before x e = cond (before x e) x e

-- y held against the first of x and e is the first of y and x held against e, where x stands between what comes before and what does not
module _ (before : Float → Float → Bool) (y x e : Float)
    (on : before y x ≡ true → before x e ≡ true → before y e ≡ true) (off : before y x ≡ false → before x e ≡ false → before y e ≡ false) where
  first_first : first before y (first before x e) ≡ first before (first before y x) e
  first_first = go (before y x) (before x e) refl refl
    where
      go : (a b : Bool) → before y x ≡ a → before x e ≡ b → first before y (cond b x e) ≡ first before (cond a y x) e
      go true true p q = rw (p, on p q) refl
      go true false p q = refl
      go false true p q = rw (p, q) refl
      go false false p q = rw (q, off p q) refl

least_of_both : (x y least : Float) → is_nan x ≡ false → lesser y (lesser x least) ≡ lesser (lesser y x) least
least_of_both x y least n = first_first lt y x least (lt_trans_float y x least) (not_lt_trans y x least n)

greatest_of_both : (x y greatest : Float) → is_nan x ≡ false → greater y (greater x greatest) ≡ greater (greater y x) greatest
greatest_of_both x y greatest n =
    first_first (λ (u v : Float). lt v u) y x greatest (λ p q. lt_trans_float greatest x y q p) (λ p q. not_lt_trans greatest x y n q p)

module _ (s : Summary) (x y : Float) (e : s.extremes ≡ true) (n : is_nan x ≡ false) (m : is_nan y ≡ false) where
  pub both_cells : with_cell (with_cell s x) y ≡ record {
    sum = with_sum (with_sum s.sum x) y;
    least = lesser (lesser y x) s.least;
    greatest = greater (greater y x) s.greatest;
    count = s.count + 2;
    nans = s.nans;
    extremes = true;
  }
  both_cells =
      ap (λ (t : Summary). with_cell t y) (at-number s x true n e) ∙ at-number (with_number true s x) y true m refl
      ∙ (let c : s.count + 1 + 1 ≡ s.count + 2 = omega arith in
      λ i. record {
        sum = with_sum (with_sum s.sum x) y;
        least = least_of_both x y s.least n i;
        greatest = greatest_of_both x y s.greatest n i;
        count = c i;
        nans = s.nans;
        extremes = true;
      })
