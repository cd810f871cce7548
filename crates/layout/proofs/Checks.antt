-- What is known behind a check: of its layout where it hands one out, and of the rows where it refuses. Assumes nothing.
use mathlib.Core.Path.{◌≡◌, sym, subst}
use mathlib.Core.List.{List}
use Rattle.std.specs.Prelude.{Option, None, Some, Result, Ok, Err}
use Prim.Native.Nat.{ℕ}
use lib.IntN.{ℤ}
use lib.ListN.{length}
use Rattle.strided.specs.declared.Refusal.{Refusal}
use Rattle.layout.specs.declared.slices.Layout.{Layout}
use Rattle.layout.specs.Checked.{LetThrough, Checked}

module _ (es sizes : List ℕ) (ss : List ℤ) {refused : Option Refusal} {r : Result Layout Refusal} (c : Checked refused es sizes ss r) where
  pub checked-through : {l : Layout} → r ≡ Ok l → LetThrough refused es sizes ss l
  checked-through e = subst (λ (s : Result Layout Refusal). Checked refused es sizes ss s) e c

  pub checked_some : {q : Refusal} → r ≡ Err q → refused ≡ Some q
  checked_some e = subst (λ (s : Result Layout Refusal). Checked refused es sizes ss s) e c

module _ {refused : Option Refusal} {es sizes : List ℕ} {ss : List ℤ} {l : Layout} (c : LetThrough refused es sizes ss l) where
  -- what the layout's lists give is what these give
  pub through_is : {A : Type 0} (f : List ℕ → ℕ → List ℤ → A) → f l.extents.now l.operands l.strides.now ≡ f es (length sizes) ss
  through_is f = λ i. f (c.extents i) (c.operands i) (c.strides i)

  -- and what holds of the layout's holds of these
  pub through_as : (P : List ℕ → ℕ → List ℤ → Type 0) → P l.extents.now l.operands l.strides.now → P es (length sizes) ss
  through_as P p = subst (λ (e : List ℕ). P e (length sizes) ss) c.extents (subst (λ (m : ℕ). P l.extents.now m ss) c.operands (subst (P l.extents.now l.operands) c.strides p))

  pub as_through : (P : List ℕ → ℕ → List ℤ → Type 0) → P es (length sizes) ss → P l.extents.now l.operands l.strides.now
  as_through P p = subst (P l.extents.now l.operands) (sym c.strides) (subst (λ (m : ℕ). P l.extents.now m ss) (sym c.operands) (subst (λ (e : List ℕ). P e (length sizes) ss) (sym c.extents) p))

  -- where more rows let it through
  pub through_with : {more : Option Refusal} → more ≡ None → LetThrough more es sizes ss l
  through_with h = record { served = h; extents = c.extents; strides = c.strides; operands = c.operands }
