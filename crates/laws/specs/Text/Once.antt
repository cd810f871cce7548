-- A TEXT SAYS ONE THING AT MOST. Each part of a text, whatever stands behind it, is told from the bytes in one way alone: fields, rows of
-- fields, the L line, the lines of operands, and so the whole.
-- Assumes nothing.
use Rattle.std.specs.Prelude.{◌≡◌, refl, false, List, [], ◌∷◌, ◌++◌, ℕ, length, Option, None, Some}
use Rattle.std.proofs.Common.{sym, ap, ◌∙◌, append_assoc, arith}
use Rattle.strided.specs.Base.{over}
use Rattle.strided.specs.Layout.{chosen}
use Rattle.strided.specs.Digits.{digits_of, signed_of}
use Rattle.strided.specs.Text.{field, signed_field, line_of, OperandLine, Parsed, purpose_letter, chosen_field, head_line, extents_line, operand_line, written, InForm}
use Rattle.strided.specs.declared.Purpose.{Purpose}
use Rattle.strided.specs.declared.Purpose.TheVariants.{Pointwise, PointwiseInto, Fold}
use Rattle.laws.specs.Text.Numbers.{goes_on, head, tail, digits_no_sign, digits_once, signed_once}

-- ---- a field, and a row of fields up to the line's end

-- a comma and the text of an element
abbrev pub celled : {A : Type 0} → (A → List ℕ) → A → List ℕ
celled g v = 44 ∷ g v

-- the text of an element is told from the bytes, where no digit is behind it
abbrev pub Once : {A : Type 0} → (A → List ℕ) → Type 0
Once {A} g = (a b : A) (x y : List ℕ) → goes_on x ≡ false → goes_on y ≡ false → g a ++ x ≡ g b ++ y → (a ≡ b) × (x ≡ y)

pub cell_once : {A : Type 0} (g : A → List ℕ) → Once g → Once (celled g)
cell_once g once a b x y p q e = once a b x y p q (ap tail e)

-- no digit is behind an element of a row
pub row_stops : {A : Type 0} (g : A → List ℕ) (vs : List A) (x : List ℕ) → goes_on (over vs (celled g) ++ (10 ∷ x)) ≡ false
row_stops g [] x = refl
row_stops g (v ∷ vs) x = refl

pub row_cons : {A : Type 0} (g : A → List ℕ) (v : A) (vs : List A) (x : List ℕ)
    → over (v ∷ vs) (celled g) ++ (10 ∷ x) ≡ celled g v ++ (over vs (celled g) ++ (10 ∷ x))
row_cons g v vs x = append_assoc (celled g v) (over vs (celled g)) (10 ∷ x)

module _ {A : Type 0} (g : A → List ℕ) (once : Once g) where
  pub row_once : (vs ws : List A) (x y : List ℕ) → over vs (celled g) ++ (10 ∷ x) ≡ over ws (celled g) ++ (10 ∷ y) → (vs ≡ ws) × (x ≡ y)
  row_once [] [] x y e = (refl, ap tail e)
  row_once [] (w ∷ ws) x y e = let z : ◌≡◌ {A = ℕ} 10 44 = ap head e in absurd (omega arith)
  row_once (v ∷ vs) [] x y e = let z : ◌≡◌ {A = ℕ} 44 10 = ap head e in absurd (omega arith)
  row_once (v ∷ vs) (w ∷ ws) x y e =
      let f = cell_once g once v w _ _ (row_stops g vs x) (row_stops g ws y) (sym (row_cons g v vs x) ∙ e ∙ row_cons g w ws y) in
      let r = row_once vs ws x y f.1 in
      (ap (λ (u : A). u ∷ vs) f.0 ∙ ap (λ (us : List A). w ∷ us) r.0, r.1)

-- ---- the lines, with what is behind them

line_text : (letter : ℕ) (fields x : List ℕ) → line_of letter fields ++ x ≡ letter ∷ (fields ++ (10 ∷ x))
line_text letter fields x = ap (λ (t : List ℕ). letter ∷ t) (append_assoc fields (10 ∷ []) x)

pub extents_text : (es x : List ℕ) → extents_line es ++ x ≡ 69 ∷ (over es field ++ (10 ∷ x))
extents_text es x = line_text 69 (over es field) x

pub operand_text : (o : OperandLine) (x : List ℕ) → operand_line o ++ x ≡ 79 ∷ (field o.size ++ (over o.strides signed_field ++ (10 ∷ x)))
operand_text o x =
    line_text 79 (field o.size ++ over o.strides signed_field) x
    ∙ ap (λ (t : List ℕ). 79 ∷ t) (append_assoc (field o.size) (over o.strides signed_field) (10 ∷ x))

-- behind `L,` and the letter
abbrev pub head_rest : Purpose → ℕ → ℕ → List ℕ → List ℕ
head_rest u rank operands x = field rank ++ (field operands ++ (chosen_field (chosen u) ++ (10 ∷ x)))

pub head_text : (u : Purpose) (rank operands : ℕ) (x : List ℕ)
    → head_line u rank operands ++ x ≡ 76 ∷ 44 ∷ purpose_letter u ∷ head_rest u rank operands x
head_text u rank operands x =
    let last : List ℕ = chosen_field (chosen u) in
    line_text 76 (44 ∷ purpose_letter u ∷ (field rank ++ (field operands ++ last))) x
    ∙ ap (λ (t : List ℕ). 76 ∷ 44 ∷ purpose_letter u ∷ t)
    (append_assoc (field rank) (field operands ++ last) (10 ∷ x)
    ∙ ap (λ (t : List ℕ). field rank ++ t) (append_assoc (field operands) last (10 ∷ x)))

-- ---- the L line

pub chosen_stops : (c : Option ℕ) (x : List ℕ) → goes_on (chosen_field c ++ x) ≡ false
chosen_stops None x = refl
chosen_stops (Some k) x = refl

pub chosen_once : (u w : Purpose) (x y : List ℕ) → purpose_letter u ≡ purpose_letter w
    → chosen_field (chosen u) ++ (10 ∷ x) ≡ chosen_field (chosen w) ++ (10 ∷ y) → (u ≡ w) × (x ≡ y)
chosen_once Pointwise Pointwise x y l e = (refl, ap (λ (t : List ℕ). tail (tail (tail t))) e)
chosen_once Pointwise (PointwiseInto k) x y l e = absurd (digits_no_sign k (10 ∷ y) (10 ∷ x) (sym (ap tail e)))
chosen_once Pointwise (Fold k) x y l e = absurd (omega arith)
chosen_once (PointwiseInto j) Pointwise x y l e = absurd (digits_no_sign j (10 ∷ x) (10 ∷ y) (ap tail e))
chosen_once (PointwiseInto j) (PointwiseInto k) x y l e =
    let f = digits_once j k (10 ∷ x) (10 ∷ y) refl refl (ap tail e) in (ap PointwiseInto f.0, ap tail f.1)
chosen_once (PointwiseInto j) (Fold k) x y l e = absurd (omega arith)
chosen_once (Fold j) Pointwise x y l e = absurd (omega arith)
chosen_once (Fold j) (PointwiseInto k) x y l e = absurd (omega arith)
chosen_once (Fold j) (Fold k) x y l e =
    let f = digits_once j k (10 ∷ x) (10 ∷ y) refl refl (ap tail e) in (ap Fold f.0, ap tail f.1)

-- what two equal L lines share
pub record SameHead (u w : Purpose) (rank rank' operands operands' : ℕ) (x y : List ℕ) : Type 0 where
  pub purposes : u ≡ w
  pub ranks : rank ≡ rank'
  pub counts : operands ≡ operands'
  pub rests : x ≡ y

pub head_once : (u w : Purpose) (r r' n n' : ℕ) (x y : List ℕ) → head_line u r n ++ x ≡ head_line w r' n' ++ y → SameHead u w r r' n n' x y
head_once u w r r' n n' x y e =
    let t : 76 ∷ 44 ∷ purpose_letter u ∷ head_rest u r n x ≡ 76 ∷ 44 ∷ purpose_letter w ∷ head_rest w r' n' y = sym (head_text u r n x) ∙ e ∙ head_text w r' n' y in
    let l : purpose_letter u ≡ purpose_letter w = ap (λ (s : List ℕ). head (tail (tail s))) t in
    let f = cell_once digits_of digits_once r r' _ _ refl refl (ap (λ (s : List ℕ). tail (tail (tail s))) t) in
    let g = cell_once digits_of digits_once n n' _ _ (chosen_stops (chosen u) (10 ∷ x)) (chosen_stops (chosen w) (10 ∷ y)) f.1 in
    let h = chosen_once u w x y l g.1 in
    record { purposes = h.0; ranks = f.0; counts = g.0; rests = h.1 }

-- ---- the lines of the operands

pub operand_once : (a b : OperandLine) (x y : List ℕ) → operand_line a ++ x ≡ operand_line b ++ y → (a ≡ b) × (x ≡ y)
operand_once a b x y e =
    let t = sym (operand_text a x) ∙ e ∙ operand_text b y in
    let f = cell_once digits_of digits_once a.size b.size _ _ (row_stops signed_of a.strides x) (row_stops signed_of b.strides y) (ap tail t) in
    let g = row_once signed_of signed_once a.strides b.strides x y f.1 in
    (λ i. record { size = f.0 i; strides = g.0 i }, g.1)

pub operands_once : (os bs : List OperandLine) → over os operand_line ≡ over bs operand_line → os ≡ bs
operands_once [] [] e = refl
operands_once [] (b ∷ bs) e = let z : ◌≡◌ {A = ℕ} 0 79 = ap head e in absurd (omega arith)
operands_once (a ∷ os) [] e = let z : ◌≡◌ {A = ℕ} 79 0 = ap head e in absurd (omega arith)
operands_once (a ∷ os) (b ∷ bs) e =
    let f = operand_once a b (over os operand_line) (over bs operand_line) e in
    ap (λ (o : OperandLine). o ∷ os) f.0 ∙ ap (λ (ls : List OperandLine). b ∷ ls) (operands_once os bs f.1)

-- as many lines, whatever is behind them
pub operands_rest : (os bs : List OperandLine) (x y : List ℕ) → length os ≡ length bs → over os operand_line ++ x ≡ over bs operand_line ++ y → x ≡ y
operands_rest [] [] x y n e = e
operands_rest [] (b ∷ bs) x y n e = absurd (omega arith)
operands_rest (a ∷ os) [] x y n e = absurd (omega arith)
operands_rest (a ∷ os) (b ∷ bs) x y n e =
    let t = sym (append_assoc (operand_line a) (over os operand_line) x) ∙ e ∙ append_assoc (operand_line b) (over bs operand_line) y in
    operands_rest os bs x y (omega arith) (operand_once a b (over os operand_line ++ x) (over bs operand_line ++ y) t).1

-- ---- the whole

pub written_once : (p q : Parsed) → written p ≡ written q → p ≡ q
written_once p q e =
    let h = head_once p.purpose q.purpose p.rank q.rank p.operands q.operands _ _ e in
    let t = sym (extents_text p.extents (over p.lines operand_line)) ∙ h.rests ∙ extents_text q.extents (over q.lines operand_line) in
    let f = row_once digits_of digits_once p.extents q.extents _ _ (ap tail t) in
    let g = operands_once p.lines q.lines f.1 in
    λ i. record { purpose = h.purposes i; rank = h.ranks i; operands = h.counts i; extents = f.0 i; lines = g i }

pub in_form_once : {text : List ℕ} {p q : Parsed} → InForm text p → InForm text q → p ≡ q
in_form_once {p = p} {q = q} f g = written_once p q (sym f.form ∙ g.form)
