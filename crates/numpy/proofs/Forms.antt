-- Reading a description from its parts: the N line, a line of numbers behind a letter, the lines S and T, the whole.
-- Assumes nothing.
use mathlib.Core.Path.{◌≡◌, refl, sym, ap, ◌∙◌, subst}
use mathlib.Core.List.{List, [], ◌∷◌, ◌++◌}
use mathlib.Core.Bool.{false}
use Rattle.std.specs.Borrow.{Bor}
use Rattle.std.specs.Prelude.{Option, None, Some}
use Prim.Native.Nat.{ℕ, ◌≤◌}
use native.Mathlib.Omega.{arith}
use lib.IntN.{ℤ}
use lib.Dec.{eqb}
use lib.ListN.{length}
use borrow.Author.Tests.{eqb-false}
use Rattle.strided.specs.Base.{over}
use Rattle.strided.specs.Digits.{digits_of, signed_of}
use Rattle.strided.specs.Text.{FitU, FitI, field, signed_field}
use Rattle.laws.specs.Text.Numbers.{tail, digits_once, signed_once}
use Rattle.laws.specs.Text.Once.{row_once}
use Rattle.reading.specs.Counted.{counts_once}
use Rattle.reading.specs.Heads.{CountsHere, ReadsCounts}
use Rattle.reading.specs.Rows.{RowHere}
use Rattle.numpy.specs.Descriptions.{Description, head_line, shape_line, strides_part, StridesFit, InForm}
use Rattle.numpy.specs.Once.{head_text, shape_text, head_once}
use Rattle.numpy.specs.Readers.{saying, HeadHere, ReadsHead, LineHere, TakesLine, LinesHere, TakesLines, ReadsDescription}
use Rattle.numpy.specs.declared.lines.Said.{Said}

-- two variants are never one answer: `clash (cc)` where both are said
pub clash : {A : Type 0} → ◌≡◌ {A = ℕ} 0 1 → A
clash z = absurd (omega arith)

-- ---- the N line

head_parts : {t : List ℕ} (size rank : ℕ) {rest : List ℕ} → HeadHere t size rank rest → (u : List ℕ) × (t ≡ 78 ∷ u) × CountsHere u size rank (10 ∷ rest)
head_parts size rank {rest} h = (
  field size ++ (field rank ++ (10 ∷ rest)),
  h.form ∙ head_text size rank rest,
  record { first_fits = h.size_fits_lem; second_fits = h.rank_fits; form = refl; stops = refl },
)

module _ {s u : List ℕ} (q : s ≡ 78 ∷ u) {r : Option (ℕ × ℕ × Bor (List ℕ))} (h : ReadsCounts u r) where
  -- what stands behind the letter of any N line
  behind : (size rank : ℕ) (rest : List ℕ) → HeadHere s size rank rest → CountsHere u size rank (10 ∷ rest)
  behind size rank rest w =
      let p = head_parts size rank w in
      subst (λ (x : List ℕ). CountsHere x size rank (10 ∷ rest)) (ap tail (sym p.1 ∙ q)) p.2

  pub head_end : {size rank : ℕ} {end : Bor (List ℕ)} → r ≡ Some (size, rank, end) → ((rest : List ℕ) → end.now ≡ 10 ∷ rest → ⊥) → ReadsHead s None
  head_end e never =
      record { told = λ size rank x z. clash (cc); bad = λ z size rank rest w. never rest (counts_once (h.told _ _ _ e) (behind size rank rest w)).2 }

-- ---- the lines behind N

-- what is not empty is something
some_left : (t : List ℕ) → eqb (length t) 0 ≡ false → t ≡ [] → ⊥
some_left t h e = eqb-false (length t) 0 h (ap length e)

-- the S line that was read is that of any lines that stand there
same_shape : {t : List ℕ} {rank : ℕ} {u rest : List ℕ} (vs : List ℕ) → LineHere digits_of FitU 83 t rank u rest vs
    → (es : List ℕ) (strides : Option (List ℤ)) → LinesHere rank t es strides → rest ≡ strides_part strides
same_shape {rest = rest} vs l es strides h =
    (row_once digits_of digits_once vs es rest (strides_part strides)
    (ap tail (ap (λ (x : List ℕ). 83 ∷ x) (sym l.row.form) ∙ sym l.begins ∙ h.form ∙ shape_text es (strides_part strides)))).1

module _ {t : List ℕ} {size rank : ℕ} {shape shape' : List ℕ} {bytes bytes' : List ℤ} where
  no_lines : ((es : List ℕ) (strides : Option (List ℤ)) → LinesHere rank t es strides → ⊥) → TakesLines t size rank shape shape' bytes bytes' None
  no_lines never = record { packed = λ z n row e. clash (cc); given = λ z n row e. clash (cc); unformed = λ e. never }

  pub lines_bad : {r : Option (Bor (List ℕ) × Bor (List ℕ))} → TakesLine digits_of FitU 83 t rank shape shape' r → r ≡ None → TakesLines t size rank shape shape' bytes bytes' None
  lines_bad k e =
      no_lines (λ es strides h.
      k.bad e es (over es field ++ (10 ∷ strides_part strides)) (strides_part strides) h.axes (h.form ∙ shape_text es (strides_part strides)) (record { fits = h.shape_fits; form = refl }))

  -- the S line is there
  module _ {r : Option (Bor (List ℕ) × Bor (List ℕ))} (k : TakesLine digits_of FitU 83 t rank shape shape' r) {u rest : Bor (List ℕ)} (e : r ≡ Some (u, rest)) where
    -- nothing can be behind it but a T line
    only_strides : (rest.now ≡ [] → ⊥) → ((ts : List ℤ) → length ts ≡ rank → rest.now ≡ 84 ∷ (over ts signed_field ++ (10 ∷ []))
        → RowHere signed_of FitI (over ts signed_field ++ (10 ∷ [])) ts [] → ⊥) → TakesLines t size rank shape shape' bytes bytes' None
    only_strides h nothing = no_lines (λ es strides l. go strides l.strides_fit (same_shape (k.there u rest e).0 (k.there u rest e).1 es strides l))
      where
        go : (strides : Option (List ℤ)) → StridesFit rank strides → rest.now ≡ strides_part strides → ⊥
        go None f q = h q
        go (Some ts) f q = nothing ts f.0 q (record { fits = f.1; form = refl })

    module _ (h : eqb (length rest.now) 0 ≡ false) {r₂ : Option (Bor (List ℕ) × Bor (List ℕ))} (k₂ : TakesLine signed_of FitI 84 rest.now rank bytes bytes' r₂) where
      pub lines_strides : r₂ ≡ None → TakesLines t size rank shape shape' bytes bytes' None
      lines_strides b = only_strides (some_left rest.now h) (λ ts l q row. k₂.bad b ts _ [] l q row)

      pub lines_more : {row end : Bor (List ℕ)} → r₂ ≡ Some (row, end) → eqb (length end.now) 0 ≡ false → TakesLines t size rank shape shape' bytes bytes' None
      lines_more {row} {end} a b =
          only_strides (some_left rest.now h) (λ ts l q w.
          let v = k₂.there row end a in
          some_left end.now b
          (row_once signed_of signed_once v.0 ts end.now []
          (ap tail (ap (λ (x : List ℕ). 84 ∷ x) (sym v.1.row.form) ∙ sym v.1.begins ∙ q))).1)

-- ---- the whole

-- the parts of a text in the form
head_of : {s : List ℕ} (d : Description) → InForm s d → HeadHere s d.size d.rank (shape_line d.shape ++ strides_part d.strides)
head_of d f = record { size_fits_lem = f.size_fits_lem; rank_fits = f.rank_fits; form = f.form }

module _ {s : List ℕ} {size rank : ℕ} {lines : List ℕ} (w : HeadHere s size rank lines) where
  formed : length s ≤ 16384 → (es : List ℕ) (strides : Option (List ℤ)) → LinesHere rank lines es strides → InForm s (saying size rank es strides)
  formed short es strides l =
      record {
        short = short;
        form = w.form ∙ ap (λ (u : List ℕ). head_line size rank ++ u) l.form;
        axes = l.axes;
        size_fits_lem = w.size_fits_lem;
        rank_fits = w.rank_fits;
        shape_fits = l.shape_fits;
        strides_fit = l.strides_fit;
      }

  lines_of : (d : Description) → InForm s d → LinesHere rank lines d.shape d.strides
  lines_of d f =
      let o = head_once size d.size rank d.rank lines _ (sym w.form ∙ f.form) in
      record {
        axes = f.axes ∙ sym o.1;
        shape_fits = f.shape_fits;
        strides_fit = subst (λ (n : ℕ). StridesFit n d.strides) (sym o.1) f.strides_fit;
        form = o.2;
      }

module _ {s shape shape' : List ℕ} {bytes bytes' : List ℤ} where
  pub text_lines : length s ≤ 16384 → {size rank : ℕ} {lines : List ℕ} → HeadHere s size rank lines → {r : Option Said}
      → TakesLines lines size rank shape shape' bytes bytes' r → ReadsDescription s shape shape' bytes bytes' r
  text_lines short {size} hd t =
      record {
        packed = λ z m row g.
            let w = t.packed z m row g in
            (w.0, subst (λ (i : ℕ). InForm s (saying i m w.0 None)) w.1 (subst (λ (i : ℕ). InForm s (saying size i w.0 None)) w.2 (formed hd short w.0 None w.3)), w.4, w.5, w.6);
        given = λ z m row g.
            let w = t.given z m row g in
            (w.0, w.1, subst (λ (i : ℕ). InForm s (saying i m w.0 (Some w.1))) w.2 (subst (λ (i : ℕ). InForm s (saying size i w.0 (Some w.1))) w.3 (formed hd short w.0 (Some w.1) w.4)), w.5, w.6, w.7);
        unformed = λ g d f. t.unformed g d.shape d.strides (lines_of hd d f);
      }
