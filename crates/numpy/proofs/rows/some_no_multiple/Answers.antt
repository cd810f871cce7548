-- `numpy::rows::some_no_multiple` meets its contract: each number read is tested, and what was found stays.
-- Assumes nothing.
use mathlib.Core.Path.{◌≡◌, refl, sym, ap₂, ◌∙◌}
use mathlib.Core.Bool.{Bool, true, false, ◌||◌}
use mathlib.Core.List.{List, [], ◌∷◌, ◌++◌}
use Prim.Native.Nat.{ℕ}
use lib.IntN.{ℤ}
use borrow.Author.Rules.{rules}
use Rattle.std.proofs.lemmas.Fn.{chained_keeps}
use Rattle.std.specs.List.{list_any}
use Rattle.numpy.specs.Numpy.{no_multiple}
use Rattle.numpy.specs.Reversing.{any_append}
use Rattle.numpy.proofs.rows.some_no_multiple.Goals as goal

or_false : (t : Bool) → (t || false) ≡ t
or_false true = refl
or_false false = refl

found-more : (size : ℕ) (w r : Bool) (xs : List ℤ) (b : ℤ) → w ≡ list_any (no_multiple size) xs → r ≡ (w || no_multiple size b) → r ≡ list_any (no_multiple size) (xs ++ (b ∷ []))
found-more size w r xs b h e =
    e ∙ ap₂ (λ (x y : Bool). x || y) h (sym (or_false (no_multiple size b))) ∙ sym (any_append (no_multiple size) xs (b ∷ []))

pub returns : goal.returns
returns c vs rest l r =
    let size = c.args.unit.size in
    chained_keeps _ (λ (xs : List ℤ) (w : Bool). w ≡ list_any (no_multiple size) xs) (λ xs w b v h q. found-more size w v xs b h (search rules)) vs false _ refl (c.fold_row.ensures vs rest l r)
