-- What begins, and what an accepted call hands out, is right: planning accepts the layout with one operand more or one less, and everything
-- else is what that layout gives. Assumes nothing.
use Rattle.std.specs.Prelude.{◌≡◌, refl, true, false, cond, List, [], ◌∷◌, ◌++◌, leb, eqb, ℤ, pos, take, drop, None}
use Rattle.std.proofs.Common.{sym, ◌∙◌, subst, mul-le-mul, mul_comm, mul-suc, eq-or-lt_of_le, arith, length-append, length-drop, take_all, drop_at}
use Rattle.std.proofs.Math.Path.{ap}
use Rattle.std.proofs.Math.Bool.{Bool}
use Rattle.std.proofs.Math.Logic.{⊎_elim}
use Prim.Native.Nat.{ℕ, suc, ◌+◌, ◌-◌, ◌*◌, ◌≤◌, ◌<◌}
use Rattle.std.proofs.Math.Dec.{ltb}
use Rattle.std.proofs.Math.ListN.{length}
use Rattle.std.proofs.lemmas.List.{take-append-le, drop-append-le}
use borrow.Author.Tests.{ltb-true, ltb-false, leb-false, lt-leb, eqb-true, eqb-false, not-false}
use Rattle.strided.specs.Base.{some_of}
use Rattle.strided.specs.Layout.{stride_row, chosen, lead, has_zero, reach, max_i}
use Rattle.strided.specs.Refusals.{missing, refused_by}
use Rattle.strided.specs.Memory.{purpose_of}
use Rattle.strided.specs.Machine.{Allowed}
use Rattle.strided.specs.declared.Purpose.{Purpose}
use Rattle.strided.specs.declared.Purpose.TheVariants.{Pointwise, PointwiseInto, Fold}
use Rattle.laws.specs.Base.Arrays.{take-padded, take_counted}
use Rattle.laws.specs.Base.Filling.{length-rows}
use Rattle.laws.specs.Base.Refusals.{NoneApplies, none_applies}
use Rattle.laws.specs.Base.Rows.{row_fits, length_strides, length_over, row-over}
use Rattle.laws.specs.Base.Tests.{or_none}
use Rattle.laws.specs.Refusals.Accepted.{Accepted, accepted, accepted_back}
use Rattle.laws.specs.Refusals.Record.{planning_as, planning_allowed, planning_layout}
use Rattle.laws.specs.Refusals.Rows.{unless-passes}
use Rattle.laws.specs.Refusals.Operands.{some_of_at}
use Rattle.session.specs.declared.Session.{Session}
use Rattle.session.specs.Session.{Given, refused_of, kind_of, fresh_of, given_of, with_operand, old_place, new_place, purpose_without, sizes_without, strides_without, without_operand, Right, holds, join_rows, leave_rows}
use Rattle.session.specs.Same.{holds-right}

-- ---- what planning accepts

module _ (g : Given) where
  abbrev pub Taken : Type 0
  Taken = Accepted g.extents g.sizes g.strides g.purpose

  pub taken_of : refused_of g ≡ None → Taken
  taken_of h = accepted _ _ _ _ (planning_layout g.machine g.extents g.sizes g.strides g.purpose h)

  pub allowed_of : refused_of g ≡ None → Allowed g.machine
  allowed_of h = planning_allowed g.machine g.extents g.sizes g.strides g.purpose h

  pub taken_back : Allowed g.machine → Taken → refused_of g ≡ None
  taken_back m a = planning_as g.machine g.extents g.sizes g.strides g.purpose m ∙ accepted_back _ _ _ _ a

-- a table has 64 * 8 places
pub few_strides : (rank operands : ℕ) → rank ≤ 64 → operands ≤ 8 → rank * operands ≤ 512
few_strides rank operands h l = let q : rank * operands ≤ 64 * 8 = mul-le-mul h l in omega (arith, q)

-- ---- a beginning

-- two numbers tell the purpose
pub purpose_back : (u : Purpose) → purpose_of (kind_of u) (lead u) ≡ u
purpose_back Pointwise = refl
purpose_back (PointwiseInto k) = refl
purpose_back (Fold k) = refl

-- the layout is read back
pub given_back : (g : Given) → refused_of g ≡ None → given_of (fresh_of g) ≡ g
unfolding fresh_of
given_back g h =
    let a = taken_of g h in
    let e = take-padded 0 64 g.extents a.axes in
    let z = take-padded 0 8 g.sizes a.few in
    let s = take_counted (pos 0) 512 (length g.extents * length g.sizes) g.strides a.strides (few_strides _ _ a.axes a.few) in
    let u = purpose_back g.purpose in
    λ i. record { machine = g.machine; extents = e i; sizes = z i; strides = s i; purpose = u i }

pub right-fresh : (g : Given) → refused_of g ≡ None → Right (fresh_of g)
right-fresh g h =
    let b = given_back g h in
    record { accepted = ap refused_of b ∙ h; afresh = ap fresh_of (sym b) }

-- the counts of a session that is right
module _ (s : Session) (r : Right s) where
  pub right-rank : s.rank ≡ length (given_of s).extents
  unfolding fresh_of
  right-rank = ap (λ (t : Session). t.rank) r.afresh

  pub right_operands : s.operands ≡ length (given_of s).sizes
  unfolding fresh_of
  right_operands = ap (λ (t : Session). t.operands) r.afresh

-- ---- an operand joins

module _ (ss ts : List ℤ) (rank m : ℕ) (e : length ss ≡ rank * m) where
  -- those that were there keep their strides
  pub row_stays : (k : ℕ) → k < m → stride_row (ss ++ ts) rank k ≡ stride_row ss rank k
  row_stays k h =
      let f = row_fits k rank m h in
      let d : rank ≤ length (drop (k * rank) ss) = omega (arith, length-drop (k * rank) ss) in
      ap (take rank) (drop-append-le (k * rank) ss ts (omega arith)) ∙ take-append-le rank (drop (k * rank) ss) ts d

  -- and the new one has its own
  pub row_new : length ts ≡ rank → stride_row (ss ++ ts) rank m ≡ ts
  row_new l =
      ap (take rank) (drop_at ss ts (m * rank) (e ∙ mul_comm rank m)) ∙ take_all rank ts (omega arith)

missing_more : (m k : ℕ) → leb m k ≡ false → leb (m + 1) k ≡ false
missing_more m k h = lt-leb (m + 1) k (let q = leb-false m k h in omega (arith, q))

there_more : (m : ℕ) (u : Purpose) → missing m (chosen u) ≡ false → missing (m + 1) (chosen u) ≡ false
there_more m Pointwise h = refl
there_more m (PointwiseInto k) h = missing_more m k h
there_more m (Fold k) h = missing_more m k h

module _ (g : Given) (z : ℕ) (ts : List ℤ) (h : refused_of g ≡ None) (room : length g.sizes < 8) (counted : length ts ≡ length g.extents)
    (near : has_zero g.extents ≡ false → reach g.extents ts ≤ max_i) where
  abbrev n : ℕ
  n = length g.extents

  abbrev m : ℕ
  m = length g.sizes

  a : Taken g
  a = taken_of g h

  one_more_lem : length (g.sizes ++ (z ∷ [])) ≡ m + 1
  one_more_lem = length-append g.sizes (z ∷ [])

  near-all : has_zero g.extents ≡ false → (k : ℕ) → k < m + 1 → reach g.extents (stride_row (g.strides ++ ts) n k) ≤ max_i
  near-all q k l = ⊎_elim
      (λ (e : k ≡ m). subst (λ (r : List ℤ). reach g.extents r ≤ max_i) (sym (ap (stride_row (g.strides ++ ts) n) e ∙ row_new g.strides ts n m a.strides counted)) (near q))
      (λ (e : k < m). subst (λ (r : List ℤ). reach g.extents r ≤ max_i) (sym (row_stays g.strides ts n m a.strides k e)) (a.near q k e))
      (eq-or-lt_of_le (let e : k ≤ m = omega arith in e))

  pub join_taken : Taken (with_operand g z ts)
  join_taken =
      record {
        axes = a.axes;
        one = omega (arith, one_more_lem);
        few = omega (arith, one_more_lem);
        strides =
            length-append g.strides ts
            ∙ (let s = a.strides in let t = mul-suc n m in let w : length g.strides + length ts ≡ n * (m + 1) = omega (arith, s, t, counted) in w)
            ∙ ap (λ (x : ℕ). n * x) (sym one_more_lem);
        there = ap (λ (x : ℕ). missing x (chosen g.purpose)) one_more_lem ∙ there_more m g.purpose a.there;
        cells = a.cells;
        near = λ q k l. near-all q k (omega (arith, l, one_more_lem));
      }

  pub join_accepted : refused_of (with_operand g z ts) ≡ None
  join_accepted = taken_back (with_operand g z ts) (allowed_of g h) join_taken

-- ---- an operand leaves

-- the one that stood at a place was there
pub old-there : (m k j : ℕ) → k < m → j < m - 1 → old_place k j < m
old-there m k j h l = go (ltb j k) refl
  where
    go : (b : Bool) → ltb j k ≡ b → cond b j (suc j) < m
    go true q = let t = ltb-true j k q in omega (arith, t)
    go false q = omega arith

new_there : (m k c : ℕ) → k < m → c < m → (c ≡ k → ⊥) → new_place k c < m - 1
new_there m k c h l d = go (ltb k c) refl
  where
    go : (b : Bool) → ltb k c ≡ b → cond b (c - 1) c < m - 1
    go true q = let t = ltb-true k c q in omega (arith, t)
    go false q =
        let t = ltb-false k c q in
        let x : c < k = ⊎_elim (λ (e : c ≡ k). absurd (d e)) (λ (e : c < k). e) (eq-or-lt_of_le t) in
        omega (arith, x)

there_less : (m k : ℕ) → k < m → 1 < m → (u : Purpose) → missing m (chosen u) ≡ false → missing (m - 1) (chosen (purpose_without k u)) ≡ false
there_less m k h o Pointwise q = refl
there_less m k h o (PointwiseInto c) q = go (eqb c k) refl
  where
    go : (b : Bool) → eqb c k ≡ b → missing (m - 1) (chosen (cond b Pointwise (PointwiseInto (new_place k c)))) ≡ false
    go true e = refl
    go false e = lt-leb (m - 1) (new_place k c) (new_there m k c h (leb-false m c q) (eqb-false c k e))
there_less m k h o (Fold c) q = go (eqb c k) refl
  where
    go : (b : Bool) → eqb c k ≡ b → missing (m - 1) (chosen (cond b (Fold 0) (Fold (new_place k c)))) ≡ false
    go true e = lt-leb (m - 1) 0 (omega arith)
    go false e = lt-leb (m - 1) (new_place k c) (new_there m k c h (leb-false m c q) (eqb-false c k e))

module _ (ss : List ℤ) (rank m k : ℕ) (e : length ss ≡ rank * m) (h : k < m) where
  rows_even : (j : ℕ) → 0 ≤ j → j < 0 + (m - 1) → length (stride_row ss rank (old_place k j)) ≡ rank
  rows_even j a b = length_strides ss rank m (old_place k j) e (old-there m k j h (omega arith))

  -- the operands that stay keep their strides
  pub row_moves : (j : ℕ) → j < m - 1 → stride_row (strides_without rank m k ss) rank j ≡ stride_row ss rank (old_place k j)
  row_moves j l = row-over rank (λ j. stride_row ss rank (old_place k j)) (m - 1) 0 j rows_even l ∙ ap (λ (i : ℕ). stride_row ss rank (old_place k i)) (let z : 0 + j ≡ j = omega arith in z)

  pub length_without : length (strides_without rank m k ss) ≡ rank * (m - 1)
  length_without = length_over rank (λ j. stride_row ss rank (old_place k j)) (m - 1) 0 rows_even ∙ mul_comm (m - 1) rank

module _ (g : Given) (k : ℕ) (h : refused_of g ≡ None) (there : k < length g.sizes) (two : 1 < length g.sizes) where
  abbrev n' : ℕ
  n' = length g.extents

  abbrev m' : ℕ
  m' = length g.sizes

  a' : Taken g
  a' = taken_of g h

  pub one_less : length (sizes_without k g.sizes) ≡ m' - 1
  one_less = length-rows _ 0 (m' - 1)

  pub leave_taken : Taken (without_operand g k)
  leave_taken =
      record {
        axes = a'.axes;
        one = omega (arith, one_less);
        few = let f = a'.few in omega (arith, one_less, f);
        strides = length_without g.strides n' m' k a'.strides there ∙ ap (λ (x : ℕ). n' * x) (sym one_less);
        there = ap (λ (x : ℕ). missing x (chosen (purpose_without k g.purpose))) one_less ∙ there_less m' k there two g.purpose a'.there;
        cells = a'.cells;
        near =
            λ q j l. let w : j < m' - 1 = omega (arith, l, one_less) in
            subst (λ (r : List ℤ). reach g.extents r ≤ max_i) (sym (row_moves g.strides n' m' k a'.strides there j w))
            (a'.near q (old_place k j) (old-there m' k j there w));
      }

  pub leave_accepted : refused_of (without_operand g k) ≡ None
  leave_accepted = taken_back (without_operand g k) (allowed_of g h) leave_taken

-- ---- what the rows let through

module _ (s : Session) (ts : List ℤ) (h : refused_by (join_rows s ts) ≡ None) where
  rows : NoneApplies (join_rows s ts)
  rows = none_applies (join_rows s ts) h

  pub join_right : Right s
  unfolding NoneApplies
  join_right = holds-right s (not-false (holds s) rows.0)

  pub join_room : length (given_of s).sizes < 8
  unfolding NoneApplies
  join_room = let q = leb-false 8 s.operands rows.1.0 in let e = right_operands s join_right in omega (arith, q, e)

  pub join_counted : length ts ≡ length (given_of s).extents
  unfolding NoneApplies
  join_counted =
      let q = eqb-true (length ts) (s.rank * 1) (not-false (eqb (length ts) (s.rank * 1)) rows.1.1.0) in
      let e = right-rank s join_right in
      omega (arith, q, e)

  pub join_near : has_zero (given_of s).extents ≡ false → reach (given_of s).extents ts ≤ max_i
  unfolding NoneApplies
  join_near q =
      let far : ℕ → Bool = λ k. ltb max_i (reach (given_of s).extents ts) in
      ltb-false max_i (reach (given_of s).extents ts) (some_of_at far 1 (unless-passes (has_zero (given_of s).extents) (some_of far 0 1) rows.1.1.1.0 q) 0 (omega arith))

  -- JOINING keeps the session right
  pub joined-right : (z : ℕ) → Right (fresh_of (with_operand (given_of s) z ts))
  joined-right z = right-fresh _ (join_accepted (given_of s) z ts join_right.accepted join_room join_counted join_near)

module _ (s : Session) (k : ℕ) (h : refused_by (leave_rows s k) ≡ None) where
  leaving_rows : NoneApplies (leave_rows s k)
  leaving_rows = none_applies (leave_rows s k) h

  pub leave_right : Right s
  unfolding NoneApplies
  leave_right = holds-right s (not-false (holds s) leaving_rows.0)

  pub leave_there : k < length (given_of s).sizes
  unfolding NoneApplies
  leave_there =
      let o = or_none (leb s.operands k) (eqb s.operands 1) leaving_rows.1.0 in
      let q = leb-false s.operands k o.0 in
      let e = right_operands s leave_right in
      omega (arith, q, e)

  pub leave_two : 1 < length (given_of s).sizes
  unfolding NoneApplies
  leave_two =
      let o = or_none (leb s.operands k) (eqb s.operands 1) leaving_rows.1.0 in
      let q = eqb-false s.operands 1 o.1 in
      let e = right_operands s leave_right in
      let n : length (given_of s).sizes ≡ 1 → ⊥ = λ w. q (e ∙ w) in
      let t = leave_there in
      ⊎_elim (λ (w : 1 ≡ length (given_of s).sizes). absurd (n (sym w))) (λ (w : 1 < length (given_of s).sizes). w)
      (eq-or-lt_of_le (let x : 1 ≤ length (given_of s).sizes = omega (arith, t) in x))

  -- and so does LEAVING
  pub left-right : Right (fresh_of (without_operand (given_of s) k))
  left-right = right-fresh _ (leave_accepted (given_of s) k leave_right.accepted leave_there leave_two)
