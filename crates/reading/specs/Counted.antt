-- What a caller has of the reader's answer: where the arrays have places enough, the counted ones hold what the text says. And of two numbers in
-- front of a text: they stand there in one way.
-- Assumes nothing.
use Rattle.std.specs.Prelude.{◌≡◌, refl, List, ℕ, ◌*◌, ◌≤◌, length, take}
use Rattle.std.proofs.Common.{sym, ap, ◌∙◌}
use Rattle.strided.specs.Digits.{digits_of}
use Rattle.strided.specs.Text.{Parsed, sizes_of, strides_of}
use Rattle.strided.specs.declared.Purpose.{Purpose}
use Rattle.laws.specs.Text.Numbers.{digits_once}
use Rattle.laws.specs.Text.Once.{cell_once}
use Rattle.laws.specs.Text.Planning.{sizes-all, strides_all}
use Rattle.reading.specs.Heads.{CountsHere}
use Rattle.reading.specs.Laid.{take-laid}
use Rattle.reading.specs.Lines.{Arrays}
use Rattle.reading.specs.Texts.{Says}

module _ {text : List ℕ} {p : Parsed} {u : Purpose} {rank operands : ℕ} {old new : Arrays} (h : Says text p u rank operands old new) where
  pub counted_extents : rank ≤ length old.extents → take rank new.extents ≡ p.extents
  counted_extents n =
      ap (λ (a : Arrays). take rank a.extents) h.arrays ∙ take-laid old.extents p.extents rank (h.form.axes ∙ h.ranks) n

  pub counted_sizes : operands ≤ length old.sizes → take operands new.sizes ≡ sizes_of p
  counted_sizes n =
      ap (λ (a : Arrays). take operands a.sizes) h.arrays ∙ take-laid old.sizes (sizes_of p) operands (sizes-all h.form ∙ h.counts) n

  pub counted_strides : rank * operands ≤ length old.strides → take (rank * operands) new.strides ≡ strides_of p
  counted_strides n =
      let e : length (strides_of p) ≡ rank * operands = strides_all h.form ∙ ap (λ (x : ℕ). x * p.operands) h.ranks ∙ ap (λ (x : ℕ). rank * x) h.counts in
      ap (λ (a : Arrays). take (rank * operands) a.strides) h.arrays ∙ take-laid old.strides (strides_of p) (rank * operands) e n

pub counts_once : {t : List ℕ} {a n b m : ℕ} {x y : List ℕ} → CountsHere t a n x → CountsHere t b m y → (a ≡ b) × (n ≡ m) × (x ≡ y)
counts_once {a = a} {n = n} {b = b} {m = m} {x = x} {y = y} f g =
    let p = cell_once digits_of digits_once a b _ _ refl refl (sym f.form ∙ g.form) in
    let q = cell_once digits_of digits_once n m x y f.stops g.stops p.1 in
    (p.0, q.0, q.1)
