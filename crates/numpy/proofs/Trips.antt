-- EACH WAY IS UNDONE BY THE OTHER: "For a description with its T line, each way followed by the other returns it." From a text to numbers and
-- back only 14 can refuse, and the text is the one it was; from numbers to a text and back nothing refuses, and the numbers are those.
-- Assumes nothing.
use Rattle.std.specs.Prelude.{◌≡◌, refl, List, [], ◌∷◌, ◌++◌, map, ℕ, ◌*◌, ◌^◌, ◌≤◌, ◌<◌, ltb, eqb, ℤ, pos, None, Some, Result, Ok}
use Rattle.std.proofs.Common.{sym, ap, ap₂, ◌∙◌, arith, length-append}
use Rattle.std.proofs.Math.Bool.{false, not}
use Rattle.std.proofs.Math.Nat.{mul-one}
use Rattle.std.proofs.Math.ListN.{length, length-map}
use Rattle.std.specs.Int.Signed.{mag}
use borrow.Author.Tests.{ltb-true, ltb-false, lt-ltb, le-ltb, eq-eqb, eqb-true, eqb-false, not-false}
use Rattle.strided.specs.Base.{over, padded}
use Rattle.strided.specs.Layout.{in_i64}
use Rattle.strided.specs.Refusals.{refused_by}
use Rattle.strided.specs.Text.{field, signed_field, Each, FitU, FitI, filling, row14, listing_or}
use Rattle.strided.specs.declared.Refusal.{Refusal}
use Rattle.laws.specs.Base.Refusals.{NoneApplies, none_applies}
use Rattle.laws.specs.Base.Tests.{or_none}
use Rattle.laws.specs.Refusals.Rows.{none_refuses, rows_pass}
use Rattle.laws.specs.Text.Lengths.{digits_most, signed-most}
use Rattle.numpy.specs.Descriptions.{Description, written, InForm}
use Rattle.std.specs.List.{list_any}
use Rattle.numpy.specs.Numpy.{reversed, element_stride, byte_stride, extents_of, strides_of, no_multiple, stride_out, from_rows, described, FromNumpy, description_of, text_of, number_rows, to_numpy}
use Rattle.numpy.specs.Readers.{saying}
use Rattle.numpy.specs.Reversing.{length-reversed, reversed_twice, reversed-map, each_reversed, any_reversed}
use Rattle.numpy.specs.Units.{bytes_again, elements_again, bytes_multiple}
use Rattle.numpy.specs.declared.Described.{Described}

-- ---- rows of strides

module _ (size : ℕ) where
  bytes-rows : (ts : List ℤ) → list_any (no_multiple size) ts ≡ false → map (byte_stride size) (map (element_stride size) ts) ≡ ts
  bytes-rows [] h = refl
  bytes-rows (t ∷ ts) h =
      let p = or_none (no_multiple size t) (list_any (no_multiple size) ts) h in
      ap₂ (λ (z : ℤ) (l : List ℤ). z ∷ l) (bytes_again size t p.0) (bytes-rows ts p.1)

  elements_rows : 0 < size → (ss : List ℤ) → map (element_stride size) (map (byte_stride size) ss) ≡ ss
  elements_rows p [] = refl
  elements_rows p (s ∷ ss) = ap₂ (λ (z : ℤ) (l : List ℤ). z ∷ l) (elements_again size s p) (elements_rows p ss)

  -- byte strides that stood in a text fit again
  none_out : (ts : List ℤ) → Each FitI ts → list_any (no_multiple size) ts ≡ false → list_any (stride_out size) (map (element_stride size) ts) ≡ false
  none_out [] f h = refl
  none_out (t ∷ ts) f h =
      let p = or_none (no_multiple size t) (list_any (no_multiple size) ts) h in
      let a : stride_out size (element_stride size t) ≡ false = ap (λ (z : ℤ). not (in_i64 z)) (bytes_again size t p.0) ∙ ap not (lt-ltb (mag t) (2 ^ 63) f.0) in
      rw a (none_out ts f.1 p.1)

  -- computed byte strides are multiples, and within 64-bit signed where row 19 lets them through
  none_odd : (ss : List ℤ) → list_any (no_multiple size) (map (byte_stride size) ss) ≡ false
  none_odd [] = refl
  none_odd (s ∷ ss) = rw (bytes_multiple size s) (none_odd ss)

  bytes_fit : (ss : List ℤ) → list_any (stride_out size) ss ≡ false → Each FitI (map (byte_stride size) ss)
  bytes_fit [] h = tt
  bytes_fit (s ∷ ss) h =
      let p = or_none (stride_out size s) (list_any (stride_out size) ss) h in
      (ltb-true (mag (byte_stride size s)) (2 ^ 63) (not-false (ltb (mag (byte_stride size s)) (2 ^ 63)) p.0), bytes_fit ss p.1)

-- ---- the way back, where only 14 could refuse and does not

pub goes_back : (size : ℕ) (es : List ℕ) (ss : List ℤ) (room : List ℕ) → refused_by (number_rows size es ss) ≡ None → length (text_of size es ss) ≤ length room
    → to_numpy size es ss room ≡ filling (text_of size es ss) room
unfolding to_numpy
goes_back size es ss room n h =
    let t : List ℕ = text_of size es ss in
    let q : refused_by (row14 t (length room) ∷ []) ≡ None = rw (le-ltb (length room) (length t) h) in
    ap (λ o. listing_or o t room) (rows_pass (number_rows size es ss) (row14 t (length room) ∷ []) n ∙ q)

-- ---- text, numbers, text

module _ (text : List ℕ) (size rank : ℕ) (es : List ℕ) (ts : List ℤ) (f : InForm text (saying size rank es (Some ts))) (n : refused_by (from_rows (saying size rank es (Some ts))) ≡ None) where
  abbrev d : Description
  d = saying size rank es (Some ts)

  -- rows 19 and 1 do not apply
  let_through : (eqb size 0 ≡ false) × (list_any (no_multiple size) ts ≡ false) × (rank ≤ 64)
  unfolding NoneApplies
  let_through =
      let a = none_applies (from_rows d) n in
      let p = or_none (eqb size 0) (list_any (no_multiple size) ts) a.0 in
      (p.0, p.1, ltb-false 64 rank a.1.0)

  strides_back : reversed (map (byte_stride size) (strides_of d)) ≡ ts
  strides_back =
      ap reversed (sym (reversed-map (byte_stride size) (map (element_stride size) ts))) ∙ reversed_twice (map (byte_stride size) (map (element_stride size) ts)) ∙ bytes-rows size ts let_through.1

  pub same_description : description_of size (extents_of d) (strides_of d) ≡ d
  same_description = λ i. record { size = size; rank = (length-reversed es ∙ f.axes) i; shape = reversed_twice es i; strides = Some (strides_back i) }

  pub same_text : text_of size (extents_of d) (strides_of d) ≡ text
  same_text = ap written same_description ∙ sym f.form

  pub not-refused : refused_by (number_rows size (extents_of d) (strides_of d)) ≡ None
  unfolding NoneApplies
  not-refused =
      let p = let_through in
      let out : list_any (stride_out size) (strides_of d) ≡ false = any_reversed (stride_out size) (map (element_stride size) ts) (none_out size ts f.strides_fit.1 p.1) in
      let le : length (extents_of d) ≡ rank = length-reversed es ∙ f.axes in
      let ls : length (strides_of d) ≡ rank = length-reversed (map (element_stride size) ts) ∙ length-map ts (element_stride size) ∙ f.strides_fit.0 in
      let m = mul-one (length (extents_of d)) in
      none_refuses (number_rows size (extents_of d) (strides_of d))
      (rw p.0 out, (le-ltb 64 (length (extents_of d)) (omega (arith, le, p.2)), (ap not (eq-eqb (length (strides_of d)) (length (extents_of d) * 1) (omega (arith, le, ls, m))), tt)))

  -- THE TEXT AGAIN, wherever it has room
  pub text_again : (room : List ℕ) → length text ≤ length room → to_numpy size (extents_of d) (strides_of d) room ≡ filling text room
  text_again room h =
      goes_back size (extents_of d) (strides_of d) room not-refused (omega (arith, h, ap length same_text)) ∙ ap (λ (u : List ℕ). filling u room) same_text

-- ---- numbers, text, numbers

fields_most : (es : List ℕ) → Each FitU es → length (over es field) ≤ 21 * length es
fields_most [] f = omega arith
fields_most (e ∷ es) f =
    let l = length-append (field e) (over es field) in
    let a = digits_most e f.0 in
    let b = fields_most es f.1 in
    omega (arith, l, a, b)

signed_fields_most : (ts : List ℤ) → Each FitI ts → length (over ts signed_field) ≤ 21 * length ts
signed_fields_most [] f = omega arith
signed_fields_most (t ∷ ts) f =
    let l = length-append (signed_field t) (over ts signed_field) in
    let a = signed-most t f.0 in
    let b = signed_fields_most ts f.1 in
    omega (arith, l, a, b)

module _ (size : ℕ) (es : List ℕ) (ss : List ℤ) (fs : FitU size) (fe : Each FitU es) (n : refused_by (number_rows size es ss) ≡ None) where
  let_back : (eqb size 0 ≡ false) × (list_any (stride_out size) ss ≡ false) × (length es ≤ 64) × (length ss ≡ length es)
  unfolding NoneApplies
  let_back =
      let a = none_applies (number_rows size es ss) n in
      let p = or_none (eqb size 0) (list_any (stride_out size) ss) a.0 in
      let c = eqb-true (length ss) (length es * 1) (not-false (eqb (length ss) (length es * 1)) a.1.1.0) in
      (p.0, p.1, ltb-false 64 (length es) a.1.0, c ∙ mul-one (length es))

  some_bytes : 0 < size
  some_bytes = let q : size ≡ 0 → ⊥ = eqb-false size 0 let_back.0 in omega arith

  abbrev ts : List ℤ
  ts = reversed (map (byte_stride size) ss)

  bytes_count : length ts ≡ length es
  bytes_count = length-reversed (map (byte_stride size) ss) ∙ length-map ss (byte_stride size) ∙ let_back.3

  ts-fit : Each FitI ts
  ts-fit = each_reversed FitI (map (byte_stride size) ss) (bytes_fit size ss let_back.1)

  -- the text is in the form
  pub text_formed : InForm (text_of size es ss) (description_of size es ss)
  text_formed =
      let rs : List ℕ = reversed es in
      let head : List ℕ = field size ++ field (length es) in
      let le = length-reversed es in
      let ae = fields_most rs (each_reversed FitU es fe) in
      let at = signed_fields_most ts ts-fit in
      let bt = bytes_count in
      let few = let_back.2 in
      let ds = digits_most size fs in
      let dr = digits_most (length es) (let q : length es < 2 ^ 64 = omega (arith, few) in q) in
      let h1 = length-append (field size) (field (length es)) in
      let h2 = length-append head (10 ∷ []) in
      let s1 = length-append (over rs field) (10 ∷ []) in
      let t1 = length-append (over ts signed_field) (10 ∷ []) in
      let w1 = length-append (78 ∷ (head ++ (10 ∷ []))) ((83 ∷ (over rs field ++ (10 ∷ []))) ++ (84 ∷ (over ts signed_field ++ (10 ∷ [])))) in
      let w2 = length-append (83 ∷ (over rs field ++ (10 ∷ []))) (84 ∷ (over ts signed_field ++ (10 ∷ []))) in
      record {
        short = omega (arith, le, ae, at, bt, few, ds, dr, h1, h2, s1, t1, w1, w2);
        form = refl;
        axes = le;
        size_fits_lem = fs;
        rank_fits = omega (arith, few);
        shape_fits = each_reversed FitU es fe;
        strides_fit = (bytes_count, ts-fit);
      }

  pub not-refused-back : refused_by (from_rows (description_of size es ss)) ≡ None
  unfolding NoneApplies
  not-refused-back =
      let p = let_back in
      let odd : list_any (no_multiple size) ts ≡ false = any_reversed (no_multiple size) (map (byte_stride size) ss) (none_odd size ss) in
      none_refuses (from_rows (description_of size es ss)) (rw p.0 odd, (le-ltb 64 (length es) p.2, tt))

  pub same_strides : strides_of (description_of size es ss) ≡ ss
  same_strides =
      reversed-map (element_stride size) ts
      ∙ ap (map (element_stride size)) (reversed_twice (map (byte_stride size) ss))
      ∙ elements_rows size some_bytes ss

  -- THE NUMBERS AGAIN
  pub numbers_again : (r : Result Described Refusal) → FromNumpy (text_of size es ss) r
      → r ≡ Ok (record { size = size; rank = length es; extents = padded 64 0 es; strides = padded 64 (pos 0) ss })
  unfolding described
  numbers_again r g =
      g.formed (description_of size es ss) text_formed
      ∙ rw not-refused-back
      (λ i. Ok (record { size = size; rank = length es; extents = padded 64 0 (reversed_twice es i); strides = padded 64 (pos 0) (same_strides i) }))
