-- Laws of a beginning's rows on a plan's arrays: what rows 1, 2 and 6 let through, and row 9 at the counters 0.
-- Assumes nothing.
use mathlib.Core.Path.{◌≡◌, refl, sym, ap, ap₂, ◌∙◌, subst}
use mathlib.Core.Bool.{Bool, false, ◌||◌}
use mathlib.Core.List.{List, [], ◌∷◌}
use Rattle.std.specs.Prelude.{Option, None, Ok, Err, Result}
use Prim.Native.Nat.{ℕ, zero, suc, ◌*◌, ◌≤◌, ◌<◌}
use native.Mathlib.Omega.{arith}
use lib.Dec.{ltb, eqb}
use lib.IntN.{ℤ, pos, ◌+ℤ◌, ◌-ℤ◌, zero-*ℤ, +ℤ_idr}
use lib.ListN.{length, get_or, take, drop, replicate, length-take}
use borrow.Author.Tests.{ltb-false, eqb-true, not-false, le-ltb, ne_eqb}
use Rattle.strided.specs.Base.{some_of, padded}
use Rattle.strided.specs.Layout.{NoZero, Within, has_zero, dot, reach, max_i}
use Rattle.strided.specs.Refusals.{Row, row5, row6, row8, row9, leaves, some_operand, served_unless}
use Rattle.strided.specs.Begin.{plan_extents, plan_row, begin_rows, begin_refused, begun_at, started}
use Rattle.strided.specs.declared.Refusal.{Refusal}
use Rattle.strided.specs.declared.Plan.{Plan}
use Rattle.strided.specs.declared.Walk.{Walk}
use Rattle.strided.specs.Refusals.{answered}
use Rattle.laws.specs.Base.Refusals.{NoneApplies, none_applies}
use Rattle.laws.specs.Base.Tests.{or_none}
use Rattle.laws.specs.Refusals.Rows.{Past, past_none, past_next, served_none, refused_too}
use Rattle.laws.specs.Refusals.Operands.{some_of_at}
use Rattle.laws.specs.Refusals.Rows.{unless-passes}
use Rattle.laws.specs.Refusals.Zeros.{no_zero_of}
use Rattle.layout.specs.Rows.{row_at, far_at}
use Rattle.layout.specs.Lent.{lent, Whole}
use Rattle.layout.proofs.Lending.{axes_long, lent_refuses}
use Rattle.states.specs.Starts.{leaves_at, some_leave, Standing, Begins}
use Rattle.states.specs.Arrays as arrays

-- the part of an array that the code cuts off has the length that it was cut with
pub cut-length : {A : Type 0} (n : ℕ) (l : List A) → n ≤ length l → n ≡ length (take n l)
cut-length n l h = let e = length-take n l in omega (arith, e, h)

-- ---- where no extent is 0

-- row 6 that passes, of any rows
rows_near : (es : List ℕ) (row : ℕ → List ℤ) (operands : ℕ) → (row6 es operands row).applies ≡ false → has_zero es ≡ false → (k : ℕ) → k < operands → reach es (row k) ≤ max_i
rows_near es row operands h z k l = ltb-false max_i (reach es (row k)) (some_of_at (far_at es row) operands (unless-passes (has_zero es) (some_of (far_at es row) 0 operands) h z) k l)

pub standing_of : {p : Plan} {c : List ℕ} {os : List ℤ} → Begins p c os → {b : Bool} → b ≡ has_zero (plan_extents p) → b ≡ false → Standing p c os
standing_of {p} h is e =
    let z : has_zero (plan_extents p) ≡ false = sym is ∙ e in
    record { offsets = h.offsets; within = h.within z; near = rows_near (plan_extents p) (plan_row p) p.operands h.near z }

-- and of the rows of slices
pub standing_in : {es : List ℕ} {ss : List ℤ} {c : List ℕ} {os : List ℤ} {operands : ℕ} → arrays.Begins es ss c os operands
    → {b : Bool} → b ≡ has_zero es → b ≡ false → arrays.Standing es ss c os operands
standing_in {es} {ss} {operands = operands} h is e =
    let z : has_zero es ≡ false = sym is ∙ e in
    record { laid = h.laid; offsets = h.offsets; within = h.within z; near = rows_near es (row_at es ss 64) operands h.near z }

-- all counters 0
zeros_within : (es : List ℕ) (m : ℕ) → NoZero es → length es ≤ m → Within es (take (length es) (replicate m 0))
zeros_within [] m h l = tt
zeros_within (e ∷ es) zero h l = absurd (bad l)
  where
    bad : suc (length es) ≤ 0 → ⊥
    bad l = omega arith
zeros_within (e ∷ es) (suc m) h l = (h.0, zeros_within es m h.1 (omega arith))

zeros-dot : (n m : ℕ) (ts : List ℤ) → dot (take n (replicate m 0)) ts ≡ pos 0
zeros-dot zero m ts = refl
zeros-dot (suc n) zero ts = refl
zeros-dot (suc n) (suc m) [] = refl
zeros-dot (suc n) (suc m) (t ∷ ts) = ap₂ (λ (a b : ℤ). a +ℤ b) (zero-*ℤ t) (zeros-dot n m ts)

-- ---- row 9 of slices, on the arrays of a plan that is lent

module _ {p : Plan} (w : Whole p) where
  row_is : row_at (plan_extents p) p.strides 64 ≡ plan_row p
  row_is = ap (λ (n : ℕ). (λ (k : ℕ). take n (drop (k * 64) p.strides))) (axes_long w)

  pub begins_in : {c : List ℕ} {os : List ℤ} → Begins p c os → arrays.Begins (plan_extents p) p.strides c os p.operands
  begins_in h =
      let l = axes_long w in
      record {
        laid = record { apart = omega (arith, l, w.axes); all = omega (arith, w.few, w.strides_all) };
        offsets = h.offsets;
        within = h.within;
        near = ap (λ (row : ℕ → List ℤ). (row6 (plan_extents p) p.operands row).applies) row_is ∙ h.near;
      }

  pub some_leave_in : (c : List ℕ) (os : List ℤ) → arrays.some_leave (plan_extents p) p.strides c os p.operands ≡ some_leave p c os
  unfolding arrays.some_leave arrays.leaves_at some_leave leaves_at
  some_leave_in c os =
      ap (λ (row : ℕ → List ℤ). some_operand (plan_extents p) (λ k. leaves (plan_extents p) (row k) (get_or os k (pos 0) -ℤ dot c (row k))) p.operands) row_is

-- ---- the rows of a plan that is lent

module _ (p : Plan) (zs : List ℤ) where
  abbrev counters : List ℕ
  counters = take p.rank (replicate 64 0)

  -- no row up to the one just tested applies
  abbrev pub Passed : ℕ → Type 0
  Passed n = Past (begin_rows p zs) (drop n (begin_rows p zs))

  -- rows 1 and 2 have let it through
  pub passed_lent : Whole p → Passed 2
  passed_lent k =
      let one : ltb 64 p.rank ≡ false = le-ltb 64 p.rank k.axes in
      let n : p.operands ≡ 0 → ⊥ = λ q. absurd (omega (arith, k.one)) in
      let two : (eqb p.operands 0 || ltb 8 p.operands) ≡ false = rw (ne_eqb p.operands 0 n) (le-ltb 8 p.operands k.few) in
      past_next (past_next (past_none (begin_rows p zs)) {b = false} (sym one) refl) {b = false} (sym two) refl

  pub row9_is : some_leave p counters zs ≡ (row9 (plan_extents p) p.operands (plan_row p) zs).applies
  unfolding some_leave leaves_at
  row9_is = ap (λ (f : ℕ → Bool). some_operand (plan_extents p) f p.operands) (λ i k. leaves (plan_extents p) (plan_row p k) (start k i))
    where
      start : (k : ℕ) → get_or zs k (pos 0) -ℤ dot counters (plan_row p k) ≡ get_or zs k (pos 0)
      start k = ap (λ (d : ℤ). get_or zs k (pos 0) -ℤ d) (zeros-dot p.rank 64 (plan_row p k)) ∙ +ℤ_idr (get_or zs k (pos 0))

  pub begins : length (plan_extents p) ≡ p.rank → p.rank ≤ 64 → p.operands ≤ length zs → {b : Bool} → b ≡ (row6 (plan_extents p) p.operands (plan_row p)).applies → b ≡ false → Begins p counters zs
  begins long r l is h =
      record {
        offsets = l;
        within = λ z. subst (λ (n : ℕ). Within (plan_extents p) (take n (replicate 64 0))) long (zeros_within (plan_extents p) 64 (no_zero_of (plan_extents p) z) (omega (arith, long, r)));
        near = sym is ∙ h;
      }

  -- ---- the walk that begins

  pub begun-refused : {r : Refusal} → Err r ≡ answered (begin_refused p zs) → Err r ≡ begun_at p zs
  unfolding begun_at
  begun-refused h = refused_too (begin_refused p zs) (started p zs) h

  -- what the lending refuses the beginning refuses too
  pub lent_refused : {r : Refusal} → Err r ≡ lent p → Err r ≡ begun_at p zs
  unfolding begun_at begin_refused
  lent_refused h =
      let es : List ℕ = plan_extents p in
      let rest : List Row = row5 es ∷ row6 es p.operands (plan_row p) ∷ row8 p.operands zs ∷ row9 es p.operands (plan_row p) zs ∷ [] in
      sym (ap (λ (o : Option Refusal). served_unless o (started p zs)) (lent_refuses p rest h))

  module _ (h : Ok tt ≡ answered (begin_refused p zs)) where
    not-refused : begin_refused p zs ≡ None
    not-refused = served_none (begin_refused p zs) tt (sym h)

    rows : NoneApplies (begin_rows p zs)
    unfolding begin_refused
    rows = none_applies (begin_rows p zs) not-refused

    pub served_starts : length zs ≤ 8
    unfolding NoneApplies
    served_starts =
        let few : p.operands ≤ 8 = ltb-false 8 p.operands (or_none (eqb p.operands 0) (ltb 8 p.operands) rows.1.0).1 in
        let same : length zs ≡ p.operands = eqb-true (length zs) p.operands (not-false (eqb (length zs) p.operands) rows.1.1.1.1.0) in
        omega (arith, few, same)

    pub begun_served : {ended : Bool} {offsets : List ℤ} → ended ≡ has_zero (plan_extents p) → offsets ≡ padded 8 (pos 0) zs
        → ◌≡◌ {A = Result Walk Refusal} (Ok (record { ended = ended; counters = replicate 64 0; offsets = offsets })) (begun_at p zs)
    unfolding begun_at
    begun_served a b =
        (λ i. Ok (record { ended = a i; counters = replicate 64 0; offsets = b i }))
        ∙ sym (ap (λ (o : Option Refusal). served_unless o (started p zs)) not-refused)
