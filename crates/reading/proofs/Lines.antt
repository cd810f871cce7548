-- Reading the lines behind L, each from its parts, and the operands' lines one by one. A loop's invariant is what is left, as for rows.
-- Assumes nothing.
use mathlib.Core.Path.{◌≡◌, refl, sym, ap, ◌∙◌}
use mathlib.Core.Bool.{true, false}
use mathlib.Core.List.{List, [], ◌∷◌, ◌++◌, append_assoc, append-nil}
use Prim.Native.Nat.{ℕ, suc, ◌+◌, ◌-◌, ◌≤◌, ◌<◌}
use native.Mathlib.Numerals.{add-one}
use native.Mathlib.Omega.{arith}
use lib.IntN.{ℤ}
use lib.ListN.{length, set, length-append, length-set}
use lib.Seq.{sets, length-sets}
use lib.Dec.{eqb}
use borrow.Author.Tests.{eqb-true, eqb-false}
use Rattle.strided.specs.Base.{over}
use Rattle.strided.specs.Digits.{digits_of, signed_of}
use Rattle.strided.specs.Text.{FitU, FitI, OperandLine, signed_field, extents_line, operand_line}
use Rattle.laws.specs.Text.Numbers.{tail, digits_once}
use Rattle.laws.specs.Text.Once.{Once, row_stops, row_once, extents_text, operand_text, operand_once, operands_rest}
use Rattle.reading.specs.Here.{Here, Nowhere}
use Rattle.reading.specs.Rows.{RowHere, TakesRow}
use Rattle.reading.specs.Laid.{sets_append}
use Rattle.reading.specs.Lines.{ExtentsHere, TakesExtents, size_text, OperandHere, TakesOperand, OperandsHere, TakesOperands, sizes_in, strides_in, LinesHere, Arrays, arrays, laid, TakesLines}
use Rattle.std.specs.Borrow.{Bor}
use Rattle.std.specs.Prelude.{Option, Some, None}
use Rattle.reading.proofs.Answers.{clash, same_found, here_once, field_once}
use Rattle.reading.proofs.Rows.{row_long}

-- ---- the E line

pub extents_reads : {t u : List ℕ} {rank : ℕ} {old new : List ℕ} {r : Option (Bor (List ℕ))} → t ≡ 69 ∷ u → TakesRow digits_of FitU u rank 0 old new r → TakesExtents t rank old new r
extents_reads e k =
    record {
      to = λ rest q. (
          let w = k.to rest q in
          (w.0, record { count = w.1; fits = w.2.fits; form = e ∙ ap (λ (l : List ℕ). 69 ∷ l) w.2.form ∙ sym (extents_text w.0 rest.now) }, w.3));
      bad = λ q es rest h.
          k.bad q es rest h.count (record { fits = h.fits; form = ap tail (sym e ∙ h.form ∙ extents_text es rest) });
    }

-- ---- the front of an O line

size_once : Once size_text
size_once a b x y g h e = field_once a b x y g h (ap tail e)

pub size_short : {t : List ℕ} {v : ℕ} {u : List ℕ} → Here size_text FitU t v u → length u ≤ length t
size_short {v = v} {u = u} h = let l = ap length h.form ∙ length-append (size_text v) u in omega arith

-- ---- an O line

-- its size, its row, and back
size_of : {rank : ℕ} {t : List ℕ} {o : OperandLine} {rest : List ℕ} → OperandHere rank t o rest → Here size_text FitU t o.size (over o.strides signed_field ++ (10 ∷ rest))
size_of {o = o} {rest = rest} h =
    record { fits = h.fits.size_fits_lem; form = h.form ∙ operand_text o rest; stops = row_stops signed_of o.strides rest }

row_of : {rank : ℕ} {t : List ℕ} {o : OperandLine} {rest : List ℕ} → OperandHere rank t o rest → RowHere signed_of FitI (over o.strides signed_field ++ (10 ∷ rest)) o.strides rest
row_of h = record { fits = h.fits.strides_fit; form = refl }

line_of : {rank : ℕ} {t u : List ℕ} {v : ℕ} {ts : List ℤ} {rest : List ℕ} → Here size_text FitU t v u → RowHere signed_of FitI u ts rest → length ts ≡ rank
    → OperandHere rank t (record { size = v; strides = ts }) rest
line_of {v = v} {ts = ts} {rest = rest} h r n =
    record {
      fits = record { count = n; size_fits_lem = h.fits; strides_fit = r.fits };
      form = h.form ∙ ap (λ (l : List ℕ). size_text v ++ l) r.form ∙ sym (operand_text (record { size = v; strides = ts }) rest);
    }

operand_long : {rank : ℕ} {t : List ℕ} (o : OperandLine) {rest : List ℕ} → OperandHere rank t o rest → rank + length rest < length t
operand_long o {rest} h =
    let l = row_long signed_of FitI o.strides (row_of h) in
    let m = ap length (size_of h).form ∙ length-append (size_text o.size) (over o.strides signed_field ++ (10 ∷ rest)) in
    omega arith

module _ {t : List ℕ} {rank from : ℕ} {old new : List ℤ} where
  no_operand : ((o : OperandLine) (rest : List ℕ) → OperandHere rank t o rest → ⊥) → TakesOperand t rank from old new None
  no_operand none = record { value = λ size rest q. clash (cc); bad = λ q. none }

  pub operand_none : Nowhere size_text FitU t → TakesOperand t rank from old new None
  operand_none none = no_operand (λ o rest h. none o.size (over o.strides signed_field ++ (10 ∷ rest)) (size_of h))

  module _ {u : List ℕ} {v : ℕ} (h : Here size_text FitU t v u) where
    pub operand_open : ((ts : List ℤ) (rest : List ℕ) → length ts ≡ rank → RowHere signed_of FitI u ts rest → ⊥) → TakesOperand t rank from old new None
    operand_open none =
        no_operand (λ o rest g.
        none o.strides rest g.fits.count
        (record { fits = g.fits.strides_fit; form = (here_once size_text size_once h (size_of g)).1 }))

    pub operand_told : (rest : Bor (List ℕ)) → (ts : List ℤ) × (length ts ≡ rank) × RowHere signed_of FitI u ts rest.now × (new ≡ sets old from ts)
        → TakesOperand t rank from old new (Some (v, rest))
    operand_told rest w =
        record {
          value = λ size x e. (
              same_found
              (λ (y : ℕ) (z : Bor (List ℕ)). (o : OperandLine) × (o.size ≡ y) × OperandHere rank t o z.now × (new ≡ sets old from o.strides)) e
              (record { size = v; strides = w.0 }, refl, line_of h w.2 w.1, w.3));
          bad = λ e. clash (cc);
        }

-- ---- all O lines

first_line : {rank n : ℕ} {t : List ℕ} {o : OperandLine} {ls : List OperandLine} {rest : List ℕ} → OperandsHere rank n t (o ∷ ls) rest
    → OperandHere rank t o (over ls operand_line ++ rest)
first_line {o = o} {ls = ls} {rest = rest} h = record { fits = h.fits.0; form = h.form ∙ append_assoc (operand_line o) (over ls operand_line) rest }

module _ {s : List ℕ} {rank k from : ℕ} {sizes sizes' : List ℕ} {strides strides' : List ℤ} where
  line_turn : {n c : ℕ} {u : List ℕ} {r : Option (Bor (List ℕ))} (o : OperandLine) → n ≡ suc c → OperandHere rank s o u
      → TakesOperands u rank c (k + 1) (from + rank) (set sizes k o.size) sizes' (sets strides from o.strides) strides' r
      → TakesOperands s rank n k from sizes sizes' strides strides' r
  line_turn {n} {c} {u} {r} o q h t =
      record {
        to = λ rest e. (
            let w = t.to rest e in
            let i : from + rank ≡ from + length o.strides = ap (λ (x : ℕ). from + x) (sym h.fits.count) in (
              o ∷ w.0,
              record {
                count = ap suc w.1.count ∙ sym q;
                fits = (h.fits, w.1.fits);
                form = h.form ∙ ap (λ (l : List ℕ). operand_line o ++ l) w.1.form ∙ sym (append_assoc (operand_line o) (over w.0 operand_line) rest.now);
              },
              w.2 ∙ ap (λ (x : ℕ). sets (set sizes k o.size) x (sizes_in w.0)) (add-one k),
              w.3 ∙ ap (λ (x : ℕ). sets (sets strides from o.strides) x (strides_in w.0)) i ∙ sym (sets_append strides from o.strides (strides_in w.0)),
            ));
        bad = λ e ls rest g. none e ls rest g;
      }
    where
      none : r ≡ None → (ls : List OperandLine) (rest : List ℕ) → OperandsHere rank n s ls rest → ⊥
      none e [] rest g = omega arith
      none e (w ∷ ws) rest g =
          let f = first_line g in
          let o-w = operand_once o w u (over ws operand_line ++ rest) (sym h.form ∙ f.form) in
          t.bad e ws rest (record { count = omega arith; fits = g.fits.1; form = o-w.1 })

  no_line : {n c : ℕ} → n ≡ suc c → ((o : OperandLine) (rest : List ℕ) → OperandHere rank s o rest → ⊥)
      → TakesOperands s rank n k from sizes sizes' strides strides' None
  no_line {n} {c} q none = record { to = λ rest e. clash (cc); bad = λ e ls rest g. go ls rest g }
    where
      go : (ls : List OperandLine) (rest : List ℕ) → OperandsHere rank n s ls rest → ⊥
      go [] rest g = omega arith
      go (w ∷ ws) rest g = none w (over ws operand_line ++ rest) (first_line g)

-- the loop: k lines are read, and what is left is u
pub record Lining (s : List ℕ) (rank count : ℕ) (sizes₀ sizes : List ℕ) (strides₀ strides : List ℤ) (u : List ℕ) (k from : ℕ) : Type 0 where
  pub within : k ≤ count
  pub short : from + length u ≤ length s
  pub same-sizes : length sizes ≡ length sizes₀
  pub same_strides : length strides ≡ length strides₀
  pub left : (sizes' : List ℕ) (strides' : List ℤ) (r : Option (Bor (List ℕ))) → TakesOperands u rank (count - k) k from sizes sizes' strides strides' r
      → TakesOperands s rank count 0 0 sizes₀ sizes' strides₀ strides' r

module _ {s : List ℕ} {rank count : ℕ} {sizes₀ sizes : List ℕ} {strides₀ strides : List ℤ} {u : List ℕ} {k from : ℕ}
    (d : Lining s rank count sizes₀ sizes strides₀ strides u k from) where
  -- a line is read
  module _ {size : ℕ} {x : List ℕ} {new : List ℤ}
      (w : (o : OperandLine) × (o.size ≡ size) × OperandHere rank u o x × (new ≡ sets strides from o.strides)) where
    pub lining_short : from + rank + length x ≤ length s
    lining_short = let l = operand_long w.0 w.2 in omega arith

    pub lining_turn : k < count → Lining s rank count sizes₀ (set sizes k size) strides₀ new x (k + 1) (from + rank)
    lining_turn h =
        let q : count - k ≡ suc (count - (k + 1)) = omega arith in
        record {
          within = omega arith;
          short = lining_short;
          same-sizes = length-set sizes k size ∙ d.same-sizes;
          same_strides = ap length w.3 ∙ length-sets strides from w.0.strides ∙ d.same_strides;
          left = λ sizes' strides' r' t.
              d.left sizes' strides' r' (line_turn w.0 q w.2 (rw (← w.1, w.3) at t));
        }

  -- no line stands there
  pub lining_bad : {new : List ℤ} → k < count → ((o : OperandLine) (rest : List ℕ) → OperandHere rank u o rest → ⊥)
      → TakesOperands s rank count 0 0 sizes₀ sizes strides₀ new None
  lining_bad {new} h none = let q : count - k ≡ suc (count - (k + 1)) = omega arith in d.left sizes new None (no_line q none)

-- ---- all lines, and nothing behind them

no_length : (l : List ℕ) → length l ≡ 0 → l ≡ []
no_length [] h = refl
no_length (x ∷ l) h = absurd (omega arith)

extents-rest : {rank : ℕ} {t : List ℕ} (a b : List ℕ) {x y : List ℕ} → ExtentsHere rank t a x → ExtentsHere rank t b y → x ≡ y
extents-rest a b {x} {y} f g = (row_once digits_of digits_once a b x y (ap tail (sym (extents_text a x) ∙ sym f.form ∙ g.form ∙ extents_text b y))).1

-- the E line that lines begin with
extents_of_lem : {rank operands : ℕ} {t es : List ℕ} {ls : List OperandLine} → LinesHere rank operands t es ls → ExtentsHere rank t es (over ls operand_line)
extents_of_lem h = record { count = h.axes; fits = h.extents_fit; form = h.form }

module _ {t : List ℕ} {rank operands : ℕ} {old new : Arrays} where
  no_lines : ((es : List ℕ) (ls : List OperandLine) → LinesHere rank operands t es ls → ⊥) → TakesLines t rank operands old new None
  no_lines none = record { yes = λ e. clash (cc); no = λ e. none }

  pub lines_none : {es es' : List ℕ} {a : Option (Bor (List ℕ))} → TakesExtents t rank es es' a → a ≡ None → TakesLines t rank operands old new None
  lines_none f e = no_lines (λ xs ls h. f.bad e xs (over ls operand_line) (extents_of_lem h))

module _ {t : List ℕ} {rank : ℕ} {es es' : List ℕ} {a : Option (Bor (List ℕ))} (f : TakesExtents t rank es es' a) (p : Bor (List ℕ)) (e : a ≡ Some p) where
  -- the operands' lines stand behind the E line
  behind_extents : {operands : ℕ} (xs : List ℕ) (ls : List OperandLine) → LinesHere rank operands t xs ls → p.now ≡ over ls operand_line
  behind_extents xs ls h = let w = f.to p e in extents-rest w.0 xs w.1 (extents_of_lem h)

  module _ {operands : ℕ} {sizes sizes' : List ℕ} {strides strides' : List ℤ} {b : Option (Bor (List ℕ))}
      (g : TakesOperands p.now rank operands 0 0 sizes sizes' strides strides' b) where
    pub lines_open : {old new : Arrays} → b ≡ None → TakesLines t rank operands old new None
    lines_open q =
        no_lines (λ xs ls h.
        g.bad q ls [] (record { count = h.operand_lines; fits = h.rows; form = behind_extents xs ls h ∙ sym (append-nil (over ls operand_line)) }))

    module _ (end : Bor (List ℕ)) (q : b ≡ Some end) where
      all : end.now ≡ [] → (xs : List ℕ) × (ls : List OperandLine) × LinesHere rank operands t xs ls × (arrays es' sizes' strides' ≡ laid (arrays es sizes strides) xs ls)
      all z =
          let w = f.to p e in
          let v = g.to end q in
          let ops : p.now ≡ over v.0 operand_line =
          v.1.form ∙ ap (λ (l : List ℕ). over v.0 operand_line ++ l) z ∙ append-nil (over v.0 operand_line) in (
            w.0,
            v.0,
            record {
              axes = w.1.count;
              extents_fit = w.1.fits;
              operand_lines = v.1.count;
              rows = v.1.fits;
              form = w.1.form ∙ ap (λ (l : List ℕ). extents_line w.0 ++ l) ops;
            },
            λ i. record { extents = w.2 i; sizes = v.2 i; strides = v.3 i },
          )

      more : (end.now ≡ [] → ⊥) → (xs : List ℕ) (ls : List OperandLine) → LinesHere rank operands t xs ls → ⊥
      more left xs ls h =
          let v = g.to end q in
          let n : length v.0 ≡ length ls = v.1.count ∙ sym h.operand_lines in
          left (operands_rest v.0 ls end.now [] n (sym v.1.form ∙ behind_extents xs ls h ∙ sym (append-nil (over ls operand_line))))

      pub lines_told : eqb (length end.now) 0 ≡ true → TakesLines t rank operands (arrays es sizes strides) (arrays es' sizes' strides') (Some tt)
      lines_told z = record { yes = λ k. all (no_length end.now (eqb-true (length end.now) 0 z)); no = λ k. clash (cc) }

      pub lines_more : eqb (length end.now) 0 ≡ false → TakesLines t rank operands (arrays es sizes strides) (arrays es' sizes' strides') None
      lines_more z = record { yes = λ k. clash (cc); no = λ k xs ls h. more (λ n. eqb-false (length end.now) 0 z (ap length n)) xs ls h }
