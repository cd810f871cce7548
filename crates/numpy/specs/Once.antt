-- A DESCRIPTION SAYS ONE THING AT MOST: the lines are told from the bytes in one way alone, and so is whether there is a T line.
-- Assumes nothing.
use Rattle.std.specs.Prelude.{◌≡◌, refl, List, [], ◌∷◌, ◌++◌, ℕ, ℤ, Option, None, Some, Result}
use Rattle.std.proofs.Common.{sym, ap, ◌∙◌, ⊎_elim, append_assoc, arith}
use Rattle.strided.specs.Base.{over}
use Rattle.strided.specs.Digits.{digits_of, signed_of}
use Rattle.strided.specs.Text.{field, line_of}
use Rattle.strided.specs.declared.Refusal.{Refusal}
use Rattle.laws.specs.Text.Numbers.{head, tail, digits_once, signed_once}
use Rattle.laws.specs.Text.Once.{cell_once, row_once}
use Rattle.numpy.specs.Descriptions.{Description, head_line, shape_line, strides_part, written, InForm}
use Rattle.numpy.specs.Numpy.{FromNumpy}
use Rattle.numpy.specs.declared.Described.{Described}

-- ---- the lines, with what is behind them

line_text : (letter : ℕ) (fields x : List ℕ) → line_of letter fields ++ x ≡ letter ∷ (fields ++ (10 ∷ x))
line_text letter fields x = ap (λ (t : List ℕ). letter ∷ t) (append_assoc fields (10 ∷ []) x)

pub head_text : (size rank : ℕ) (x : List ℕ) → head_line size rank ++ x ≡ 78 ∷ (field size ++ (field rank ++ (10 ∷ x)))
head_text size rank x = line_text 78 (field size ++ field rank) x ∙ ap (λ (t : List ℕ). 78 ∷ t) (append_assoc (field size) (field rank) (10 ∷ x))

pub shape_text : (es x : List ℕ) → shape_line es ++ x ≡ 83 ∷ (over es field ++ (10 ∷ x))
shape_text es x = line_text 83 (over es field) x

-- ---- told in one way

pub strides_once : (a b : Option (List ℤ)) → strides_part a ≡ strides_part b → a ≡ b
strides_once None None e = refl
strides_once None (Some ts) e = let z : ◌≡◌ {A = ℕ} 0 84 = ap head e in absurd (omega arith)
strides_once (Some ts) None e = let z : ◌≡◌ {A = ℕ} 84 0 = ap head e in absurd (omega arith)
strides_once (Some ts) (Some us) e = ap Some (row_once signed_of signed_once ts us [] [] (ap tail e)).0

pub shape_once : (es fs x y : List ℕ) → shape_line es ++ x ≡ shape_line fs ++ y → (es ≡ fs) × (x ≡ y)
shape_once es fs x y e = row_once digits_of digits_once es fs x y (ap tail (sym (shape_text es x) ∙ e ∙ shape_text fs y))

pub head_once : (a b n m : ℕ) (x y : List ℕ) → head_line a n ++ x ≡ head_line b m ++ y → (a ≡ b) × (n ≡ m) × (x ≡ y)
head_once a b n m x y e =
    let t = sym (head_text a n x) ∙ e ∙ head_text b m y in
    let f = cell_once digits_of digits_once a b _ _ refl refl (ap tail t) in
    let g = cell_once digits_of digits_once n m (10 ∷ x) (10 ∷ y) refl refl f.1 in
    (f.0, g.0, ap tail g.1)

pub written_once : (d e : Description) → written d ≡ written e → d ≡ e
written_once d e q =
    let h = head_once d.size e.size d.rank e.rank _ _ q in
    let s = shape_once d.shape e.shape _ _ h.2 in
    let t = strides_once d.strides e.strides s.1 in
    λ i. record { size = h.0 i; rank = h.1 i; shape = s.0 i; strides = t i }

pub in_form_once : {text : List ℕ} (d e : Description) → InForm text d → InForm text e → d ≡ e
in_form_once d e f g = written_once d e (sym f.form ∙ g.form)

-- so it is answered in one way
pub from_once : {text : List ℕ} {q r : Result Described Refusal} → FromNumpy text q → FromNumpy text r → q ≡ r
from_once f g = ⊎_elim (λ w. f.formed w.0 w.1 ∙ sym (g.formed w.0 w.1)) (λ n. f.unformed n ∙ sym (g.unformed n)) f.either
