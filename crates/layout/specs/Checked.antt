-- What a check of a layout answers: the layout that these slices are, or what refuses it. Assumes nothing.
use Rattle.std.specs.Prelude.{◌≡◌, List, ℕ, ℤ, length, Option, None, Some, Result, MatchResult}
use Rattle.strided.specs.declared.Refusal.{Refusal}
use Rattle.layout.specs.declared.slices.Layout.{Layout}

-- its extents and strides, and an operand for each size; nothing refuses it
pub record LetThrough (refused : Option Refusal) (es sizes : List ℕ) (ss : List ℤ) (l : Layout) : Type 0 where
  pub served : refused ≡ None
  pub extents : l.extents.now ≡ es
  pub strides : l.strides.now ≡ ss
  pub operands : l.operands ≡ length sizes

-- the layout is handed out exactly if nothing refuses it
abbrev pub Checked : Option Refusal → List ℕ → List ℕ → List ℤ → Result Layout Refusal → Type 0
Checked refused es sizes ss r = MatchResult r (LetThrough refused es sizes ss) (λ q. refused ≡ Some q)
