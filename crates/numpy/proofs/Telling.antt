-- The rows of both ways, taken apart as the code checks them, and the numbers that are told where none applies.
-- Assumes nothing.
use mathlib.Core.Path.{◌≡◌, refl, sym, ap, ap₂, ◌∙◌}
use mathlib.Core.Logic.{inl}
use mathlib.Core.Bool.{Bool, true, false, ◌||◌}
use mathlib.Core.List.{List, [], ◌∷◌, ◌++◌, map}
use Prim.Native.Nat.{ℕ, suc, ◌+◌, ◌-◌, ◌*◌, ◌^◌, ◌≤◌, ◌<◌}
use native.Mathlib.Nat.{mul-le-mul_right, mul-one}
use native.Mathlib.Omega.{arith}
use lib.Dec.{ltb, eqb}
use lib.IntN.{ℤ, pos}
use lib.ListN.{length, get_or, take, drop, replicate, length-map, length-replicate}
use lib.Seq.{take_at, drop_at, sets}
use borrow.Author.Tests.{ltb-true, ltb-false, eqb-true, eqb-false, not-false}
use Rattle.strided.specs.Base.{padded}
use Rattle.strided.specs.Layout.{total}
use Rattle.strided.specs.Refusals.{row1, row3, refused_by}
use Rattle.strided.specs.Text as T
use Rattle.strided.specs.declared.Refusal.{Refusal}
use Rattle.std.specs.Prelude.{Result, Ok, Err}
use Rattle.strided.specs.declared.Refusal.TheVariants.{ByteStrides, Rank, StrideCount}
use Rattle.laws.specs.Base.Filling.{padded_is, fill_none, drop_behind}
use Rattle.laws.specs.Base.Refusals.{NoneApplies, none_applies}
use Rattle.laws.specs.Base.Tests.{or_none}
use Rattle.laws.specs.Text.Answers.{filled_within}
use Rattle.reading.specs.Laid.{take-laid}
use Rattle.numpy.specs.Descriptions.{Description, InForm}
use Rattle.std.proofs.lemmas.List.Edits.{sets-eq}
use Rattle.std.specs.List.{list_any}
use Rattle.numpy.specs.Numpy.{reversed, afters, packed, byte_stride, extents_of, strides_of, too_far, row19, back_row19, telling, described, FromNumpy, text_of, to_rows, to_numpy}
use Rattle.numpy.specs.Once.{in_form_once}
use Rattle.numpy.specs.Readers.{spelled}
use Rattle.numpy.specs.Reversing.{length-reversed, get_d_reversed, any_at}
use Rattle.numpy.specs.Units.{firsts_at, reversed-afters, Near}
use Rattle.numpy.specs.declared.Described.{Described}
use Rattle.numpy.proofs.Fills.{map_at}

-- ---- arrays with a count

-- numbers laid into an array of zeros
pub into_zeros : {A : Type 0} {z : A} {new old : List A} (vs : List A) → new ≡ sets old 0 vs → old ≡ replicate 64 z → new ≡ sets (replicate 64 z) 0 vs
into_zeros {A} vs e o = e ∙ ap (λ (u : List A). sets u 0 vs) o

pub laid-take : {A : Type 0} (z : A) (new vs : List A) (rank : ℕ) → new ≡ sets (replicate 64 z) 0 vs → length vs ≡ rank → rank ≤ 64 → take rank new ≡ vs
laid-take z new vs rank e l h = ap (take rank) e ∙ take-laid (replicate 64 z) vs rank l (let q = length-replicate 64 z in omega (arith, q, h))

-- the places behind them stay zeros
pub laid-behind : {A : Type 0} (z : A) (new vs : List A) (rank : ℕ) → new ≡ sets (replicate 64 z) 0 vs → length vs ≡ rank → rank ≤ 64 → drop rank new ≡ replicate (64 - rank) z
laid-behind z new vs rank e l h =
    let q = length-replicate 64 z in
    let n : ℕ = length vs in
    ap (drop rank) (e ∙ sets-eq vs (replicate 64 z) 0 (omega (arith, q, h, l)))
    ∙ drop_at vs (drop (0 + n) (replicate 64 z)) rank l
    ∙ ap (drop (0 + n)) (fill_none 64 z)
    ∙ drop_behind 64 (0 + n) z [] (omega arith)
    ∙ sym (fill_none (64 - (0 + n)) z)
    ∙ (let m : 0 + n ≡ rank = omega (arith, l) in ap (λ (k : ℕ). replicate (64 - k) z) m)

-- the numbers in front are turned, and zeros stay behind
pub front_turned : {A : Type 0} (z : A) (old ys xs : List A) (rank : ℕ) → ys ≡ xs → length xs ≡ rank → rank ≤ 64 → drop rank old ≡ replicate (64 - rank) z → ys ++ drop rank old ≡ padded 64 z xs
front_turned z old ys xs rank e l h d =
    ap₂ ◌++◌ e (d ∙ fill_none (64 - rank) z ∙ ap (λ (k : ℕ). padded (64 - k) z []) (sym l)) ∙ sym (padded_is 64 z xs (omega (arith, l, h)))

pub take-padded : {A : Type 0} (z : A) (xs : List A) (n : ℕ) → length xs ≡ n → n ≤ 64 → take n (padded 64 z xs) ≡ xs
take-padded z xs n e h = ap (take n) (padded_is 64 z xs (omega (arith, e, h))) ∙ take_at xs (padded (64 - length xs) z []) n e

-- ---- from NumPy

module _ (d : Description) where
  pub told_19 : (row19 d).applies ≡ true → Err ByteStrides ≡ described d
  unfolding described
  told_19 e = rw e

  pub told_1 : (row19 d).applies ≡ false → (row1 d.rank).applies ≡ true → Err Rank ≡ described d
  unfolding described
  told_1 e f = rw (e, f)

  told : (row19 d).applies ≡ false → (row1 d.rank).applies ≡ false → Ok (telling d) ≡ described d
  unfolding described
  told e f = rw (e, f)

  -- out of its arrays
  pub told-all : (row19 d).applies ≡ false → (row1 d.rank).applies ≡ false → {E : List ℕ} {S : List ℤ} → E ≡ padded 64 0 (extents_of d) → S ≡ padded 64 (pos 0) (strides_of d)
      → Ok (record { size = d.size; rank = d.rank; extents = E; strides = S }) ≡ described d
  told-all e f x y = (λ i. Ok (record { size = d.size; rank = d.rank; extents = x i; strides = y i })) ∙ told e f

-- row 19 lets through: a size, and its bytes
pub some_size : (size : ℕ) (b : Bool) → (eqb size 0 || b) ≡ false → (0 < size) × (b ≡ false)
some_size size b h =
    let p = or_none (eqb size 0) b h in
    let q : size ≡ 0 → ⊥ = eqb-false size 0 p.0 in
    (omega arith, p.1)

length-afters : (es : List ℕ) → length (afters es) ≡ length es
length-afters [] = refl
length-afters (e ∷ es) = ap suc (length-afters es)

-- the products of a packed shape are within 64-bit signed
module _ (size : ℕ) (es : List ℕ) (p : 0 < size) (h : list_any too_far (packed size es) ≡ false) where
  pub packed-near : Near (reversed es)
  packed-near i l =
      let n : ℕ = length es in
      let la = length-afters es in
      let lr = length-reversed es in
      let k : ℕ = length (afters es) - 1 - i in
      let b : k < length (afters es) = omega (arith, la, lr, l) in
      let lp : length (packed size es) ≡ length (afters es) = length-map (afters es) (λ (m : ℕ). size * m) in
      let x : ℕ = get_or (afters es) k 0 in
      let far : too_far (get_or (packed size es) k 0) ≡ false = any_at too_far (packed size es) 0 k (omega (arith, lp, b)) h in
      let at : get_or (packed size es) k 0 ≡ size * x = map_at (λ (m : ℕ). size * m) (afters es) 0 0 k b in
      let near : get_or (packed size es) k 0 < 2 ^ 63 = ltb-true (get_or (packed size es) k 0) (2 ^ 63) (not-false (ltb (get_or (packed size es) k 0) (2 ^ 63)) far) in
      let one : 1 * x ≤ size * x = mul-le-mul_right x (let q : 1 ≤ size = omega (arith, p) in q) in
      let same : 1 * total (take i (reversed es)) ≡ x =
      sym (firsts_at 1 (reversed es) i l) ∙ ap (λ (v : List ℕ). get_or v i 0) (sym (reversed-afters es)) ∙ get_d_reversed (afters es) 0 i (omega (arith, la, lr, l)) in
      omega (arith, at, near, one, same)

-- ---- to NumPy

module _ (size : ℕ) (es : List ℕ) (ss : List ℤ) (room : List ℕ) where
  pub back_19 : (back_row19 size ss).applies ≡ true → T.refusing ByteStrides room ≡ to_numpy size es ss room
  unfolding to_numpy
  back_19 e = rw e

  pub back_1 : (back_row19 size ss).applies ≡ false → (row1 (length es)).applies ≡ true → T.refusing Rank room ≡ to_numpy size es ss room
  unfolding to_numpy
  back_1 e f = rw (e, f)

  pub back_3 : (back_row19 size ss).applies ≡ false → (row1 (length es)).applies ≡ false → (row3 (length es) 1 ss).applies ≡ true → T.refusing StrideCount room ≡ to_numpy size es ss room
  unfolding to_numpy
  back_3 e f g = rw (e, f, g)

  pub back_text : (back_row19 size ss).applies ≡ false → (row1 (length es)).applies ≡ false → (row3 (length es) 1 ss).applies ≡ false
      → T.listing_or (refused_by (T.row14 (spelled size (reversed es) (reversed (map (byte_stride size) ss))) (length room) ∷ [])) (spelled size (reversed es) (reversed (map (byte_stride size) ss))) room
      ≡ to_numpy size es ss room
  unfolding to_numpy spelled
  back_text e f g = rw (e, f, g, length-reversed es)

  -- what goes back is within the lent bytes
  pub back_within : (n : ℕ) → (to_numpy size es ss room).answer ≡ Ok n → n ≤ length room
  unfolding to_numpy NoneApplies
  back_within =
      let t : List ℕ = text_of size es ss in
      filled_within (refused_by (to_rows size es ss (length room))) t room
      (λ q. ltb-false (length room) (length t) (none_applies (to_rows size es ss (length room)) q).1.1.1.0)

  -- one stride for each axis
  pub stride_count : (row3 (length es) 1 ss).applies ≡ false → length ss ≡ length es
  stride_count g = let m = mul-one (length es) in eqb-true (length ss) (length es * 1) (not-false (eqb (length ss) (length es * 1)) g) ∙ m

-- ---- a text and what it says

pub said-from : {text : List ℕ} (d : Description) → InForm text d → {r : Result Described Refusal} → r ≡ described d → FromNumpy text r
said-from d f e =
    record {
      formed = λ g h. e ∙ ap described (in_form_once d g f h);
      unformed = λ n. absurd (n d f);
      either = inl (d, f);
    }
