-- "A zero extent copies nothing and succeeds, unless a refusal up to 16 is due."
-- Assumes nothing.
use Rattle.std.specs.Prelude.{◌≡◌, refl, true, false, ℕ, ℤ, pos, length, get_or}
use Rattle.std.proofs.Common.{sym, ◌∙◌, inl}
use Rattle.std.proofs.Math.Path.{ap}
use Rattle.std.proofs.lemmas.Bool.{false≢true}
use mathlib.Core.List.{List, [], ◌∷◌, map}
use Rattle.strided.specs.Layout.{stride_row, has_zero}
use Rattle.strided.specs.Mark.{mark_of}
use Rattle.laws.specs.Base.Layouts.{within-total, total_nozero}
use Rattle.laws.specs.Refusals.Zeros.{no_zero_test}
use Rattle.span.specs.Span.{outside}
use Rattle.cells.specs.Copy.{In, copied}
use Rattle.export.specs.Export.{indices, cell_of, width_of, exported, row17, row18}
use Rattle.export.specs.Indices.{index_only}

-- a list with no member
none_in : {A : Type 0} (l : List A) → ((x : A) → In x l → ⊥) → l ≡ []
none_in [] h = refl
none_in (x ∷ l) h = absurd (h x (inl refl))

module _ (es : List ℕ) (zero : has_zero es ≡ true) where
  no_index_lem : indices es ≡ []
  no_index_lem = none_in (indices es) (λ x m. false≢true (sym (no_zero_test es (total_nozero es (within-total es x (index_only es x m)))) ∙ zero))

  no_cell : (ts : List ℤ) (z : ℤ) (n : ℕ) → outside es ts z n ≡ false
  unfolding outside
  no_cell ts z n = rw zero

  module _ (sizes : List ℕ) (ss zs : List ℤ) (dst src : List ℕ) where
    -- rows 17 and 18 are not due
    pub zero-row17 : (row17 es sizes ss zs (length dst) (length src)).applies ≡ false
    zero-row17 = rw (no_cell (stride_row ss (length es) 0) (get_or zs 0 (pos 0)) _, no_cell (stride_row ss (length es) 1) (get_or zs 1 (pos 0)) _)

    pub zero-row18 : (row18 es ss).applies ≡ false
    unfolding mark_of
    zero-row18 = rw zero

    -- and nothing is copied
    pub zero_copies : exported es sizes ss zs dst src ≡ dst
    unfolding exported copied
    zero_copies = ap (λ (l : List (List ℕ)). copied (width_of sizes) (map (cell_of es sizes ss zs) l) dst src) no_index_lem
