-- The answers of a visit, put together from what the parts of the code found.
-- Assumes nothing.
use mathlib.Core.Path.{◌≡◌, refl, sym, ap, ◌∙◌, subst}
use mathlib.Core.Bool.{Bool, true, false, cond}
use mathlib.Core.List.{List, [], ◌∷◌}
use Rattle.std.specs.Prelude.{None, Some, is_some, Ok, Err, Result, Option}
use Prim.Native.Nat.{ℕ}
use native.Mathlib.Omega.{arith}
use lib.IntN.{ℤ}
use lib.ListN.{length, take, get_or}
use borrow.Author.Tests.{le-ltb, ne_eqb}
use Rattle.strided.specs.Refusals.{refused_by, answers_unless, served_unless, row1, row2, layout_refused}
use Rattle.strided.specs.Index.{told_original}
use Rattle.strided.specs.Begin.{begin_refused}
use Rattle.strided.specs.Step.{plan_cut_axes, step_rows, stepped, left, handed_block}
use Rattle.strided.specs.Memory.{index_at, index_memory, walk_in, StepMemory, step_memory, kept_step}
use Rattle.strided.specs.declared.Purpose.{Purpose}
use Rattle.strided.specs.declared.Refusal.{Refusal}
use Rattle.strided.specs.declared.Refusal.TheVariants.{State}
use Rattle.strided.specs.declared.Plan.{Plan}
use Rattle.strided.specs.declared.Told.{Told}
use Rattle.strided.specs.declared.Walk.{Walk}
use Rattle.strided.specs.declared.Block.{Block}
use Rattle.strided.specs.declared.Stepped.{Stepped}
use Rattle.laws.specs.Base.Arrays.{take_counted}
use Rattle.laws.specs.Base.Refusals.{NoneApplies, none_applies}
use Rattle.laws.specs.Refusals.Rows.{refused_some}
use Rattle.laws.specs.Text.Totals.{begun_total}
use Rattle.laws.specs.Walk.States.{Inside, OnStart}
use Rattle.laws.specs.Walk.Reach.{reach}
use Rattle.laws.specs.Walk.Row10.{row10_exact}
use Rattle.laws.specs.Walk.Steps.{none_of, wide, counters-many}
use Rattle.advance.specs.Sized as plans
use Rattle.layout.specs.declared.slices.Layout.{Layout}
use Rattle.layout.specs.Checked.{LetThrough}
use Rattle.layout.specs.Lent.{Whole}
use Rattle.layout.proofs.Checks.{through_with}
use Rattle.finding.specs.Memory.{Leaves}
use Rattle.finding.specs.Mapped.{found_original}
use Rattle.finding.proofs.Answers.{original_passed}
use Rattle.walk.specs.Lent.{Taken, SteppedInto, over_step}
use Rattle.walk.proofs.Answered.{flag_back}
use Rattle.walk.proofs.Stepping.{zs, r, runs, ended_step, here, block_here, counters-here}
use Rattle.views.specs.declared.Visited.{Visited}
use Rattle.views.specs.Number.{block_number}
use Rattle.views.specs.Visits.{visit_rows, visit_refused, visit_of, ended_visit, found_visit, visit_by, seen_by, seen, visited}
use Rattle.views.specs.Memory.{VisitMemory, visit_at, visit_memory, VisitLeaves, record_of}
use Rattle.views.specs.declared.Visit.{Visit}
use Rattle.views.specs.Tally.{Countable}
use Rattle.views.proofs.Seeing.{seen_block, leaves_block}

-- ---- index finding's answer

pub told_as : {s t : Result Told Refusal} {c x c' x' : List ℕ} {a b : Result (Unit {0}) Refusal} → s ≡ t → a ≡ b → Leaves s c x c' x' a → Leaves t c x c' x' b
told_as {s} {t} {c} {x} {c'} {x'} {a} {b} e h l = subst (Leaves t c x c' x') h (subst (λ (v : Result Told Refusal). Leaves v c x c' x' a) e l)

-- what memory holds is what was told, and a refusal is the teller's
pub record Given (t : Result Told Refusal) (c x : List ℕ) : Type 0 where
  pub value : Told
  pub is : t ≡ Ok value
  pub memory : index_at c x ≡ index_memory value

given : (t : Result Told Refusal) {c x c' x' : List ℕ} → Leaves t c x c' x' (Ok tt) → Given t c' x'
given (Ok v) l = record { value = v; is = refl; memory = l.memory }
given (Err r) l = let a = l.answer in let z : ◌≡◌ {A = ℕ} 0 1 = cc a in absurd (omega arith)

refused_is : (t : Result Told Refusal) {c x c' x' : List ℕ} {s : Refusal} → Leaves t c x c' x' (Err s) → (t ≡ Err s) × (index_at c' x' ≡ index_at c x)
refused_is (Ok v) l = let a = l.answer in let z : ◌≡◌ {A = ℕ} 0 1 = cc a in absurd (omega arith)
refused_is (Err r) l = let a = l.answer in (cc a, l.memory)

-- ---- the rows

module _ (es sizes : List ℕ) (ss : List ℤ) (u : Purpose) (rank operands : ℕ) where
  -- where rows 1 and 2 of the plan pass, the layout's rows are left
  pub visit_rest : (row1 rank).applies ≡ false → (row2 operands).applies ≡ false → layout_refused es sizes ss u ≡ visit_refused es sizes ss u rank operands
  unfolding layout_refused visit_refused
  visit_rest b d = rw (b, d)

  visit_layout : visit_refused es sizes ss u rank operands ≡ None → layout_refused es sizes ss u ≡ None
  unfolding visit_refused NoneApplies
  visit_layout h =
      let n : NoneApplies (visit_rows es sizes ss u rank operands) = none_applies (visit_rows es sizes ss u rank operands) h in
      visit_rest n.1.0 n.1.1.1.0 ∙ h

  -- and so the check's layout is one that index finding takes
  pub visit_through : {l : Layout} → LetThrough (visit_refused es sizes ss u rank operands) es sizes ss l → LetThrough (layout_refused es sizes ss u) es sizes ss l
  visit_through c = through_with c (visit_layout c.served)

  pub visit_plan : visit_refused es sizes ss u rank operands ≡ None → refused_by (row1 rank ∷ row2 operands ∷ []) ≡ None
  unfolding visit_refused NoneApplies
  visit_plan h =
      let n : NoneApplies (visit_rows es sizes ss u rank operands) = none_applies (visit_rows es sizes ss u rank operands) h in
      rw (n.1.0, n.1.1.1.0)

-- a plan that is lent has passed its two rows
pub visit_lent : (es sizes : List ℕ) (ss : List ℤ) (u : Purpose) {p : Plan} → Whole p → layout_refused es sizes ss u ≡ visit_refused es sizes ss u p.rank p.operands
visit_lent es sizes ss u {p} k =
    let n : p.operands ≡ 0 → ⊥ = λ q. absurd (omega (arith, q, k.one)) in
    visit_rest es sizes ss u p.rank p.operands (le-ltb 64 p.rank k.axes) (rw (ne_eqb p.operands 0 n) (le-ltb 8 p.operands k.few))

-- what the lending refuses the visit refuses too
pub lend_refused : (es sizes : List ℕ) (ss : List ℤ) (u : Purpose) (p : Plan) {s : Refusal} → Err s ≡ served_unless (refused_by (row1 (length es) ∷ step_rows p)) p
    → visit_refused es sizes ss u p.rank p.operands ≡ Some s
unfolding visit_refused
lend_refused es sizes ss u p {s} h =
    go (row1 (length es)).applies (row1 p.rank).applies (row2 (length sizes)).applies (row2 p.operands).applies _
    (refused_some (refused_by (row1 (length es) ∷ step_rows p)) p (sym h))
  where
    rank : Option Refusal
    rank = Some (row1 p.rank).refusal

    few : Option Refusal
    few = Some (row2 p.operands).refusal

    go : (a b c d : Bool) (rest : Option Refusal) → cond a rank (cond b rank (cond d few None)) ≡ Some s → cond a rank (cond b rank (cond c few (cond d few rest))) ≡ Some s
    go true b c d rest q = q
    go false true c d rest q = q
    go false false true true rest q = q
    go false false false true rest q = q
    go false false c false rest q = let z : ◌≡◌ {A = ℕ} 0 1 = cc q in absurd (omega arith)

-- ---- a state that is taken, and runs

module _ (p : Plan) (w : Walk) (k : Taken p w) (h : w.ended ≡ false) where
  -- its counters are those of a block
  pub countable : Countable p w.counters
  countable =
      let q = runs p w k h in
      let e : take p.rank w.counters ≡ q.c =
      ap (λ (v : Walk). take p.rank v.counters) q.here
      ∙ take_counted 0 64 p.rank q.c (counters-many p (zs p w k) (r p w k) k.reached.steps (Some q.c) q.is) (r p w k).axes in
      let i = (reach (plan_cut_axes p) q.c (wide p (zs p w k) (r p w k))).0 (k.reached.steps, q.is) in
      record {
        few = (r p w k).axes;
        extents-all = k.extents-all;
        blocks_all = k.blocks_all;
        counters-all = k.counters-all;
        inside = subst (Inside (plan_cut_axes p)) (sym e) i.0;
        starts = subst (OnStart (plan_cut_axes p)) (sym e) i.1;
        fits = begun_total p (zs p w k) (none_of (begin_refused p (zs p w k)) (r p w k).may);
      }

-- ---- the record of a block, out of what index finding told; `tell` is what it tells of counters

module _ (tell : List ℕ → Result Told Refusal) (p : Plan) where
  -- in lent memory
  module _ (w : Walk) (k : Taken p w) (h : w.ended ≡ false) where
    abbrev told : Result Told Refusal
    told = tell (take p.rank w.counters)

    seen_here : seen_by tell p (stepped p w) ≡ found_visit p (here p w k h) (left (stepped p w) w) told
    seen_here =
        seen_block (stepped p w) (here p w k h) (block_here p w k h) w tell p
        ∙ ap (λ (v : List ℕ). found_visit p (here p w k h) (left (stepped p w) w) (tell (take p.rank v))) (counters-here p w k h)

    module _ {c x c' x' : List ℕ} where
      pub visit_refused_lem : {s : Refusal} → Leaves told c x c' x' (Err s) → (m : StepMemory) (n : List ℕ)
          → VisitLeaves (seen_by tell p (stepped p w)) (visit_at m n (index_at c x)) (visit_at m n (index_at c' x')) (Err s)
      visit_refused_lem l m n =
          let q = refused_is told l in
          rw (seen_here, q.0) (record { answer = refl; memory = ap (visit_at m n) q.1 })

      pub visit_block : Leaves told c x c' x' (Ok tt) → {n : ℕ} → n ≡ block_number (plan_cut_axes p) (take p.rank w.counters)
          → {old new : StepMemory} {N : List ℕ} → SteppedInto (stepped p w) old new (Ok true)
          → VisitLeaves (seen_by tell p (stepped p w)) (visit_at old N (index_at c x)) (visit_at new (n ∷ []) (index_at c' x')) (Ok true)
      visit_block l {n} e {old} {new} s =
          let q = given told l in
          let f : new ≡ step_memory (left (stepped p w) w) (here p w k h) = s.memory ∙ leaves_block (stepped p w) (here p w k h) (block_here p w k h) w old in
          let g : n ≡ block_number (plan_cut_axes p) (take p.rank (here p w k h).counters) =
          e ∙ ap (λ (v : List ℕ). block_number (plan_cut_axes p) (take p.rank v)) (sym (counters-here p w k h)) in
          rw (seen_here, q.is) (record { answer = refl; memory = λ i. visit_at (f i) (g i ∷ []) (q.memory i) })

-- ---- the entry

module _ (es sizes : List ℕ) (ss : List ℤ) (u : Purpose) (p : Plan) (w : Walk) where
  -- a row of the counts or of the layout
  pub entry_refused : {s : Refusal} → visit_refused es sizes ss u p.rank p.operands ≡ Some s → {old : VisitMemory}
      → VisitLeaves (visited es sizes ss u p w) old old (Err s)
  unfolding visited
  entry_refused h = rw h (record { answer = refl; memory = refl })

  pub value-first : {s : Refusal} → visit_refused es sizes ss u p.rank p.operands ≡ Some s → Err s ≡ visited es sizes ss u p w
  unfolding visited
  value-first h = rw h

  module _ {l : Layout} (c : LetThrough (visit_refused es sizes ss u p.rank p.operands) es sizes ss l) where
    -- what index finding tells of a layout that is not refused
    abbrev found : List ℕ → Result Told Refusal
    found = found_original l.extents.now l.operands l.strides.now u

    finds : found ≡ told_original es sizes ss u
    finds = λ i y. original_passed es sizes ss u (visit_through es sizes ss u p.rank p.operands c) y i

    -- the step decides
    visited_is : {s : Result Stepped Refusal} → stepped p w ≡ s → seen es sizes ss u p s ≡ visited es sizes ss u p w
    unfolding visited
    visited_is e = rw c.served (ap (seen es sizes ss u p) (sym e))

    -- row 10
    pub entry_state : {s : Refusal} {old : VisitMemory} → Err s ≡ stepped p w → VisitLeaves (visited es sizes ss u p w) old old (Err s)
    entry_state {s} {old} e = subst (λ (v : Result Visited Refusal). VisitLeaves v old old (Err s)) (visited_is (sym e)) (record { answer = refl; memory = refl })

    pub entry_ended : {old : VisitMemory} → over_step w ≡ stepped p w → VisitLeaves (visited es sizes ss u p w) old old (Ok false)
    entry_ended {old} e = subst (λ (v : Result Visited Refusal). VisitLeaves v old old (Ok false)) (visited_is (sym e)) (record { answer = refl; memory = refl })

    pub entry_block : {s : Result Stepped Refusal} → s ≡ stepped p w → {old new : VisitMemory} {a : Result Bool Refusal}
        → VisitLeaves (seen_by (found_original l.extents.now l.operands l.strides.now u) p s) old new a
        → VisitLeaves (visited es sizes ss u p w) old new a
    entry_block {s} e {old} {new} {a} l =
        subst (λ (v : Result Visited Refusal). VisitLeaves v old new a)
        (ap (λ (tell : List ℕ → Result Told Refusal). seen_by tell p s) finds ∙ visited_is (sym e)) l

-- ---- a visit by value, out of what one in lent arrays leaves

-- the record and the state that lie in memory
abbrev pub visit_in : VisitMemory → Visited
visit_in m =
    record {
      visit = Some (record_of (get_or m.number 0 0) m.step.counters (get_or m.step.length 0 0) m.step.offsets m.step.strides (get_or m.first.count 0 0) m.first.index);
      walk = walk_in m.step.walk;
    }

-- an answer without a record
pub record Over (v : Result Visited Refusal) : Type 0 where
  pub state : Walk
  pub is : v ≡ ended_visit state

module _ {old new : VisitMemory} where
  pub back_refused : (v : Result Visited Refusal) {s : Refusal} → VisitLeaves v old new (Err s) → Err s ≡ v
  back_refused (Ok v) l = let a = l.answer in let z : ◌≡◌ {A = ℕ} 0 1 = cc a in absurd (omega arith)
  back_refused (Err r) l = let a = l.answer in cc a

  pub back_block : (v : Result Visited Refusal) → VisitLeaves v old new (Ok true) → Ok (visit_in new) ≡ v
  back_block (Err r) l = let a = l.answer in let z : ◌≡◌ {A = ℕ} 0 1 = cc a in absurd (omega arith)
  back_block (Ok v) l = go v.visit refl
    where
      go : (o : Option Visit) → v.visit ≡ o → ◌≡◌ {A = Result Visited Refusal} (Ok (visit_in new)) (Ok v)
      go None e = let a : ◌≡◌ {A = Result Bool Refusal} (Ok true) (Ok false) = l.answer ∙ ap (λ (o : Option Visit). Ok (is_some o)) e in let z : ◌≡◌ {A = ℕ} 0 1 = cc a in absurd (omega arith)
      go (Some x) e =
          let m : new ≡ visit_memory v.walk x = l.memory ∙ ap (λ (o : Option Visit). kept_step (visit_memory v.walk) o old) e in
          ap (λ (n : VisitMemory). Ok (visit_in n)) m
          ∙ (λ i. Ok (record { visit = sym e i; walk = record { ended = flag_back v.walk.ended i; counters = v.walk.counters; offsets = v.walk.offsets } }))

  -- at the end there is none, and the state is some state
  pub back_ended : (v : Result Visited Refusal) → VisitLeaves v old new (Ok false) → Over v
  back_ended (Err r) l = let a = l.answer in let z : ◌≡◌ {A = ℕ} 0 1 = cc a in absurd (omega arith)
  back_ended (Ok v) l = go v.visit refl
    where
      go : (o : Option Visit) → v.visit ≡ o → Over (Ok v)
      go None e = record { state = v.walk; is = λ i. Ok (record { visit = e i; walk = v.walk }) }
      go (Some x) e = let a : ◌≡◌ {A = Result Bool Refusal} (Ok false) (Ok true) = l.answer ∙ ap (λ (o : Option Visit). Ok (is_some o)) e in let z : ◌≡◌ {A = ℕ} 0 1 = cc a in absurd (omega arith)

record_in : Result Visited Refusal → Option Visit
record_in (Ok v) = v.visit
record_in (Err r) = None

-- which is the one that was handed in
module _ (p : Plan) (w : Walk) (z : plans.Sized p) (hc : length w.counters ≡ 64) (ho : length w.offsets ≡ 8) where
  module _ (rows : refused_by (step_rows p) ≡ None) {s : Stepped} (e : stepped p w ≡ Ok s) (q : s.block ≡ None) where
    over_taken : Taken p w
    over_taken =
        record {
          extents-all = z.extents-all;
          blocks_all = z.blocks_all;
          strides_all = z.strides_all;
          counters-all = hc;
          offsets_all = ho;
          rows = rows;
          reached =
              (row10_exact p w (record { extents-all = z.extents-all; counters-all = hc; offsets_all = ho }) rows).0
              (λ (h : stepped p w ≡ Err State). let a : ◌≡◌ {A = Result Stepped Refusal} (Err State) (Ok s) = sym h ∙ e in let z : ◌≡◌ {A = ℕ} 0 1 = cc a in omega arith);
        }

    over_keeps : s.walk ≡ w
    over_keeps = go w.ended refl
      where
        go : (b : Bool) → w.ended ≡ b → s.walk ≡ w
        go true h = ap (λ (x : Result Stepped Refusal). left x w) (sym e ∙ sym (ended_step p w over_taken h))
        go false h =
            let a : ◌≡◌ {A = Option Block} (Some (here p w over_taken h)) None = sym (block_here p w over_taken h) ∙ ap handed_block e ∙ q in
            let z : ◌≡◌ {A = ℕ} 0 1 = cc a in
            absurd (omega arith)

  module _ (es sizes : List ℕ) (ss : List ℤ) (u : Purpose) where
    pub over_visit : Over (visited es sizes ss u p w) → ended_visit w ≡ visited es sizes ss u p w
    unfolding visited record_in
    over_visit o = go (visit_refused es sizes ss u p.rank p.operands) refl (stepped p w) refl o.is
      where
        visit : Option Refusal → Result Stepped Refusal → Result Visited Refusal
        visit row s = answers_unless row (seen es sizes ss u p s)

        go : (r : Option Refusal) → visit_refused es sizes ss u p.rank p.operands ≡ r → (s : Result Stepped Refusal) → stepped p w ≡ s
            → visit (visit_refused es sizes ss u p.rank p.operands) (stepped p w) ≡ ended_visit o.state
            → ended_visit w ≡ visit (visit_refused es sizes ss u p.rank p.operands) (stepped p w)
        go (Some x) h s e k = let a : Err x ≡ ended_visit o.state = sym (ap (λ (y : Option Refusal). visit y (stepped p w)) h) ∙ k in let z : ◌≡◌ {A = ℕ} 0 1 = cc a in absurd (omega arith)
        go None h (Err x) e k = let a : Err x ≡ ended_visit o.state = sym (λ i. visit (h i) (e i)) ∙ k in let z : ◌≡◌ {A = ℕ} 0 1 = cc a in absurd (omega arith)
        go None h (Ok s) e k = on s.block refl
          where
            on : (b : Option Block) → s.block ≡ b → ended_visit w ≡ visit (visit_refused es sizes ss u p.rank p.operands) (stepped p w)
            on None q = ap ended_visit (sym (over_keeps (visit_plan es sizes ss u p.rank p.operands h) e q)) ∙ sym ((λ i. visit (h i) (e i)) ∙ ap (λ (x : Option Block). visit_by (told_original es sizes ss u) p x s.walk) q)
            on (Some b) q = absurd (none (told_original es sizes ss u (take p.rank b.counters)) (sym ((λ i. visit (h i) (e i)) ∙ ap (λ (x : Option Block). visit_by (told_original es sizes ss u) p x s.walk) q) ∙ k))
              where
                none : (t : Result Told Refusal) → found_visit p b s.walk t ≡ ended_visit o.state → ⊥
                none (Ok t) a = let b : ◌≡◌ {A = Option Visit} (Some (visit_of p b t)) None = ap record_in a in let z : ◌≡◌ {A = ℕ} 0 1 = cc b in omega arith
                none (Err x) a = let z : ◌≡◌ {A = ℕ} 0 1 = cc a in omega arith
