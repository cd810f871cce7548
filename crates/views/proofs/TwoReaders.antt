-- TWO READERS OF A BLOCK: a student's views do not depend on the starts; visit m has number m; and its index gives, by the original strides,
-- the engineer's offsets less the starts.
-- Assumes nothing.
use Rattle.std.proofs.Math.Path.{◌≡◌, refl, sym, ap, subst}
use Rattle.std.proofs.Common.{ap₂, ◌∙◌, arith}
use mathlib.Core.List.{List, [], ◌∷◌, map}
use Prim.Native.Nat.{ℕ, zero, suc, ◌+◌, ◌≤◌, ◌<◌, min}
use Rattle.std.specs.Prelude.{ℤ, pos, ◌+ℤ◌, ◌-ℤ◌, ◌*ℤ◌, length, get_or, take, Option, None, Some, Result, Ok, Err}
use Rattle.std.proofs.Math.IntN.{zero-*ℤ, +ℤ_idr}
use Rattle.strided.specs.Base.{padded, nth, and_then}
use Rattle.strided.specs.Layout.{Within, dot, stride_row}
use Rattle.strided.specs.Refusals.{answers_unless, layout_rows, layout_refused}
use Rattle.strided.specs.Index.{told_original, told}
use Rattle.strided.specs.Walk.{block, block_at, blocks_of, counters, next, cell_at}
use Rattle.strided.specs.Fuse.{plan_axes}
use Rattle.strided.specs.Plan.{planned}
use Rattle.strided.specs.Begin.{begin_refused, begun_at, started}
use Rattle.strided.specs.Step.{plan_cut_axes, packed, handed_out, step_rows, stepped, left, handed_block}
use Rattle.strided.specs.Demand3.{replaced, steps_from, Hands, Place, Meets, Demand3}
use Rattle.strided.specs.declared.Machine.{Machine}
use Rattle.strided.specs.declared.Purpose.{Purpose}
use Rattle.strided.specs.declared.Refusal.{Refusal}
use Rattle.strided.specs.declared.Plan.{Plan}
use Rattle.strided.specs.declared.Told.{Told}
use Rattle.strided.specs.declared.Walk.{Walk}
use Rattle.strided.specs.declared.Block.{Block}
use Rattle.strided.specs.declared.Stepped.{Stepped}
use Rattle.laws.specs.Base.Arrays.{take_counted}
use Rattle.laws.specs.Base.Layouts.{within-length}
use Rattle.laws.specs.Base.Lists.{nth-map}
use Rattle.laws.specs.Base.Refusals.{NoneApplies, none_applies, layout_counts}
use Rattle.laws.specs.Refusals.Rows.{served_none, served_is}
use Rattle.laws.specs.Refusals.Record.{planning_layout}
use Rattle.laws.specs.Plan.Answers.{planned_is, not-refused}
use Rattle.laws.specs.Plan.Places.{plan_extents_lem}
use Rattle.laws.specs.Demand3.Served.{one_block}
use Rattle.laws.specs.Demand3.Whole.{demand3_any}
use Rattle.laws.specs.Base.Trace.{after-suc}
use Rattle.laws.specs.Walk.States.{begin, state_after}
use Rattle.laws.specs.Walk.Reach.{state-nth}
use Rattle.laws.specs.Walk.Steps.{Ready, ready_sized, wide, at, made, raw, raw-walk, step-at, begun-walk, walk_is, counters-many}
use Rattle.views.specs.Number.{block_number}
use Rattle.views.specs.Places.{number-after_steps}
use Rattle.views.specs.Views.{engineer_of, student_of}
use Rattle.views.proofs.Seeing.{seen_block}
use Rattle.views.specs.Visits.{visit_of, visit_refused, shown, found_visit, visit_by, seen, visited, left_with, visits_from}
use Rattle.views.specs.declared.Visit.{Visit}
use Rattle.views.specs.declared.Visited.{Visited}
use Rattle.views.specs.declared.Student.{Student}

-- ---- "An export engineer sees a block as now."

-- a visit that hands out a record is the step's block, and leaves the state that the step leaves
pub record Stepping (p : Plan) (w : Walk) (v : Visit) (after : Walk) : Type 0 where
  pub sees : Hands (stepped p w) (engineer_of v)
  pub state : after ≡ left (stepped p w) w

-- the record that is shown
abbrev visit_in : Result Visited Refusal → Option Visit
visit_in (Ok x) = x.visit
visit_in (Err r) = None

module _ (es sizes : List ℕ) (ss : List ℤ) (u : Purpose) (p : Plan) where
  seen_step : (s : Result Stepped Refusal) (lent : Walk) {v : Visit} {after : Walk} → seen es sizes ss u p s ≡ shown v after
      → Hands s (engineer_of v) × (after ≡ left s lent)
  seen_step (Err r) lent h = let z : ◌≡◌ {A = ℕ} 0 1 = cc h in absurd (omega arith)
  seen_step (Ok s) lent {v} {after} h = go s.block h
    where
      found : (b : Block) (t : Result Told Refusal) → found_visit p b s.walk t ≡ shown v after → (b ≡ engineer_of v) × (after ≡ s.walk)
      found b (Ok t) q =
          let e : Some (visit_of p b t) ≡ Some v = ap visit_in q in
          let f : visit_of p b t ≡ v = cc e in
          (ap engineer_of f, sym (ap (left_with after) q))
      found b (Err r) q = let z : ◌≡◌ {A = ℕ} 0 1 = cc q in absurd (omega arith)

      go : (o : Option Block) → visit_by (told_original es sizes ss u) p o s.walk ≡ shown v after → (o ≡ Some (engineer_of v)) × (after ≡ s.walk)
      go None q = let e : None ≡ Some v = ap visit_in q in let z : ◌≡◌ {A = ℕ} 0 1 = cc e in absurd (omega arith)
      go (Some b) q = let f = found b (told_original es sizes ss u (take p.rank b.counters)) q in (ap Some f.0, f.1)

  pub visit_is_step : (w : Walk) {v : Visit} {after : Walk} → visited es sizes ss u p w ≡ shown v after → Stepping p w v after
  unfolding visited
  visit_is_step w {v} {after} h = go (visit_refused es sizes ss u p.rank p.operands) h
    where
      go : (o : Option Refusal) → answers_unless o (seen es sizes ss u p (stepped p w)) ≡ shown v after → Stepping p w v after
      go None q = let f = seen_step (stepped p w) w q in record { sees = f.0; state = f.1 }
      go (Some r) q = let z : ◌≡◌ {A = ℕ} 0 1 = cc q in absurd (omega arith)

-- ---- a plan as values have it, whose beginning is taken

served_ready : (p : Plan) (zs : List ℤ) → length p.extents ≡ 64 → {w : Walk} → begun_at p zs ≡ Ok w → Ready p zs
unfolding begun_at
served_ready p zs l h = ready_sized p zs l (served_none (begin_refused p zs) _ h)

-- the state handed out is where the walk begins
begun_is : (p : Plan) (zs : List ℤ) {w : Walk} → begun_at p zs ≡ Ok w → w ≡ started p zs
unfolding begun_at
begun_is p zs h = served_is (begin_refused p zs) _ h

-- ---- what does not depend on the starts

-- what a student is told at each visit: the refusal, or the end, or the view
abbrev pub Line : Type 0
Line = Result (Option Student) Refusal

abbrev pub view_of : Option Visit → Option Student
view_of None = None
view_of (Some v) = Some (student_of v)

abbrev pub line_of : Result Visited Refusal → Line
line_of (Ok v) = Ok (view_of v.visit)
line_of (Err r) = Err r

module _ (es sizes : List ℕ) (ss : List ℤ) (u : Purpose) (p : Plan) (zs ys : List ℤ) (r : Ready p zs) (q : Ready p ys) where
  abbrev R : Option Refusal
  R = visit_refused es sizes ss u p.rank p.operands

  abbrev T : List ℕ → Result Told Refusal
  T c = told_original es sizes ss u (take p.rank (padded 64 0 c))

  -- the state, and the visit there, at counters c, and at the end
  abbrev W : (zs : List ℤ) → Ready p zs → Option (List ℕ) → Walk
  W zs r o = packed (at p zs r o)

  abbrev here : (zs : List ℤ) → Ready p zs → Option (List ℕ) → Result Visited Refusal
  here zs r o = answers_unless (visit_refused es sizes ss u p.rank p.operands) (seen es sizes ss u p (handed_out (raw p zs r o)))

  visit_at_lem : (zs : List ℤ) (r : Ready p zs) (i : ℕ) (o : Option (List ℕ)) → state_after (plan_cut_axes p) i ≡ o → visited es sizes ss u p (packed (at p zs r o)) ≡ here zs r o
  unfolding visited
  visit_at_lem zs r i o e = ap (λ (s : Result Stepped Refusal). answers_unless R (seen es sizes ss u p s)) (step-at p zs r i o e)

  -- the lines agree, and either both walks go on at the next counters, or both stay where they are
  same_from : (n i : ℕ) (o : Option (List ℕ)) → state_after (plan_cut_axes p) i ≡ o
      → map line_of (visits_from es sizes ss u p n (W zs r o)) ≡ map line_of (visits_from es sizes ss u p n (W ys q o))
  same_from zero i o e = refl
  same_from (suc n) i o e =
      let f : state_after (plan_cut_axes p) (suc i) ≡ and_then (next (plan_cut_axes p)) o =
      after-suc (next (plan_cut_axes p)) i (begin (plan_cut_axes p)) ∙ ap (and_then (next (plan_cut_axes p))) e in
      ap (λ (v : Result Visited Refusal). line_of v ∷ rest (W zs r o) v) (visit_at_lem zs r i o e)
      ∙ go R o (same_from n (suc i) (and_then (next (plan_cut_axes p)) o) f) (same_from n i o e)
      ∙ sym (ap (λ (v : Result Visited Refusal). line_of v ∷ rest (W ys q o) v) (visit_at_lem ys q i o e))
    where
      rest : Walk → Result Visited Refusal → List Line
      rest w v = map line_of (visits_from es sizes ss u p n (left_with w v))

      same : Option (List ℕ) → Type 0
      same o = map line_of (visits_from es sizes ss u p n (W zs r o)) ≡ map line_of (visits_from es sizes ss u p n (W ys q o))

      -- the visit of the block at c, where that is told
      met : (zs : List ℤ) → Ready p zs → List ℕ → Result Told Refusal → Result Visited Refusal
      met zs r c t = found_visit p (made p zs r c) (W zs r (next (plan_cut_axes p) c)) t

      found : (t : Result Told Refusal) (c : List ℕ) → same (and_then (next (plan_cut_axes p)) (Some c)) → same (Some c)
          → line_of (met zs r c t) ∷ rest (W zs r (Some c)) (met zs r c t) ≡ line_of (met ys q c t) ∷ rest (W ys q (Some c)) (met ys q c t)
      found (Ok t) c h k = ap (λ (l : List Line). line_of (met zs r c (Ok t)) ∷ l) h
      found (Err s) c h k = ap (λ (l : List Line). Err s ∷ l) k

      go : (b : Option Refusal) (o : Option (List ℕ)) → same (and_then (next (plan_cut_axes p)) o) → same o
          → line_of (answers_unless b (seen es sizes ss u p (handed_out (raw p zs r o)))) ∷ rest (W zs r o) (answers_unless b (seen es sizes ss u p (handed_out (raw p zs r o))))
          ≡ line_of (answers_unless b (seen es sizes ss u p (handed_out (raw p ys q o)))) ∷ rest (W ys q o) (answers_unless b (seen es sizes ss u p (handed_out (raw p ys q o))))
      go (Some s) o h k = ap (λ (l : List Line). Err s ∷ l) k
      go None None h k = ap (λ (l : List Line). line_of (seen es sizes ss u p (handed_out (raw p zs r None))) ∷ l) h
      go None (Some c) h k = found (T c) c h k

-- "Two walks of one plan of a layout that begin at different starts, neither refused, give the student equal views throughout."
pub same_lines : (es sizes : List ℕ) (ss : List ℤ) (u : Purpose) (p : Plan) (zs ys : List ℤ) → length p.extents ≡ 64
    → {w v : Walk} → begun_at p zs ≡ Ok w → begun_at p ys ≡ Ok v
    → (n : ℕ) → map line_of (visits_from es sizes ss u p n w) ≡ map line_of (visits_from es sizes ss u p n v)
same_lines es sizes ss u p zs ys l h k n =
    let r : Ready p zs = served_ready p zs l h in
    let q : Ready p ys = served_ready p ys l k in
    ap (λ (w : Walk). map line_of (visits_from es sizes ss u p n w)) (begun_is p zs h ∙ begun-walk p zs r)
    ∙ same_from es sizes ss u p zs ys r q n 0 (begin (plan_cut_axes p)) refl
    ∙ sym (ap (λ (w : Walk). map line_of (visits_from es sizes ss u p n w)) (begun_is p ys k ∙ begun-walk p ys q))

-- ---- the number on a line

-- visit m of a begun walk that hands out a record has number m, and is block m of document 01's list
pub record Numbered (p : Plan) (m : ℕ) (b : Block) : Type 0 where
  pub number : block_number (plan_cut_axes p) (take p.rank b.counters) ≡ m
  pub in_order_lem : nth (blocks_of (plan_cut_axes p)) m ≡ Some (block (take p.rank b.counters) b.length)

pub step-number : (p : Plan) (zs : List ℤ) → length p.extents ≡ 64 → {w : Walk} → begun_at p zs ≡ Ok w
    → (n m : ℕ) (s : Result Stepped Refusal) (b : Block) → nth (steps_from p n w) m ≡ Some s → Hands s b → Numbered p m b
step-number p zs l h n m s b e k =
    let r : Ready p zs = served_ready p zs l h in
    go r (state_after (plan_cut_axes p) m) refl
    (ap handed_block (sym (walk_is p zs r n m s (subst (λ (w : Walk). nth (steps_from p n w) m ≡ Some s) (begun_is p zs h) e))) ∙ k)
  where
    go : (r : Ready p zs) (o : Option (List ℕ)) → state_after (plan_cut_axes p) m ≡ o → handed_block (handed_out (raw p zs r o)) ≡ Some b → Numbered p m b
    go r None st is = let z : ◌≡◌ {A = ℕ} 0 1 = cc is in absurd (omega arith)
    go r (Some c) st is =
        let same : b ≡ made p zs r c = cc is in
        let back : take p.rank b.counters ≡ c =
        ap (λ (d : Block). take p.rank d.counters) same ∙ take_counted 0 64 p.rank c (counters-many p zs r m (Some c) st) r.axes in
        let len : b.length ≡ (made p zs r c).length = ap (λ (d : Block). d.length) same in
        record {
          number = ap (block_number (plan_cut_axes p)) back ∙ number-after_steps (plan_cut_axes p) (wide p zs r) m c st;
          in_order_lem =
              nth-map (block_at (plan_cut_axes p)) (counters (plan_cut_axes p)) m c (sym (state-nth (plan_cut_axes p) (wide p zs r) m) ∙ st)
              ∙ ap₂ (λ (v : List ℕ) (j : ℕ). Some (block v j)) (sym back) (sym len);
        }

-- ---- the visits of a plan of its layout

-- no visit is refused where each block's first cell is told: then they are the steps, seen
module _ (es sizes : List ℕ) (ss : List ℤ) (u : Purpose) (p : Plan) (zs : List ℤ) (r : Ready p zs)
    (passes : visit_refused es sizes ss u p.rank p.operands ≡ None) where
  -- what is told at a step's block
  abbrev pub ToldOf : Result Stepped Refusal → Type 0
  ToldOf s = (b : Block) → Hands s b → (t : Told) × (told_original es sizes ss u (take p.rank b.counters) ≡ Ok t)

  abbrev pub Tells : List (Result Stepped Refusal) → Type 0
  Tells l = (m : ℕ) (s : Result Stepped Refusal) → nth l m ≡ Some s → ToldOf s

  left_by_lem : (o : Option (List ℕ)) → ToldOf (handed_out (raw p zs r o))
      → (w : Walk) → left_with w (seen es sizes ss u p (handed_out (raw p zs r o))) ≡ left (handed_out (raw p zs r o)) w
  left_by_lem None h w = refl
  left_by_lem (Some c) h w = rw (h (made p zs r c) refl).1

  visits-from : (n i : ℕ) (o : Option (List ℕ)) → state_after (plan_cut_axes p) i ≡ o → Tells (steps_from p n (packed (at p zs r o)))
      → visits_from es sizes ss u p n (packed (at p zs r o)) ≡ map (seen es sizes ss u p) (steps_from p n (packed (at p zs r o)))
  unfolding visited
  visits-from zero i o e t = refl
  visits-from (suc n) i o e t =
      let f : state_after (plan_cut_axes p) (suc i) ≡ and_then (next (plan_cut_axes p)) o =
      after-suc (next (plan_cut_axes p)) i (begin (plan_cut_axes p)) ∙ ap (and_then (next (plan_cut_axes p))) e in
      let w : Walk = packed (at p zs r o) in
      let s : stepped p w ≡ handed_out (raw p zs r o) = step-at p zs r i o e in
      let v : visited es sizes ss u p w ≡ seen es sizes ss u p (stepped p w) = ap (λ (b : Option Refusal). answers_unless b (seen es sizes ss u p (stepped p w))) passes in
      let ahead : left (stepped p w) w ≡ packed (at p zs r (and_then (next (plan_cut_axes p)) o)) = ap (λ (x : Result Stepped Refusal). left x w) s ∙ raw-walk p zs r o w in
      let tells : ToldOf (handed_out (raw p zs r o)) = subst ToldOf s (t 0 (stepped p w) refl) in
      let on : left_with w (seen es sizes ss u p (stepped p w)) ≡ packed (at p zs r (and_then (next (plan_cut_axes p)) o)) =
      ap (λ (x : Result Stepped Refusal). left_with w (seen es sizes ss u p x)) s ∙ left_by_lem o tells w ∙ raw-walk p zs r o w in
      let later : Tells (steps_from p n (packed (at p zs r (and_then (next (plan_cut_axes p)) o)))) =
      subst (λ (x : Walk). Tells (steps_from p n x)) ahead (λ m y. t (suc m) y) in
      ap (λ (x : Result Visited Refusal). x ∷ visits_from es sizes ss u p n (left_with w x)) v
      ∙ ap (λ (l : List (Result Visited Refusal)). seen es sizes ss u p (stepped p w) ∷ l)
      (ap (visits_from es sizes ss u p n) on ∙ visits-from n (suc i) (and_then (next (plan_cut_axes p)) o) f later
      ∙ sym (ap (λ (x : Walk). map (seen es sizes ss u p) (steps_from p n x)) ahead))

  pub visits_are : {w : Walk} → begun_at p zs ≡ Ok w → (n : ℕ) → Tells (steps_from p n w)
      → visits_from es sizes ss u p n w ≡ map (seen es sizes ss u p) (steps_from p n w)
  visits_are h n t =
      let b = begun_is p zs h ∙ begun-walk p zs r in
      ap (visits_from es sizes ss u p n) b
      ∙ visits-from n 0 (begin (plan_cut_axes p)) refl (subst (λ (w : Walk). Tells (steps_from p n w)) b t)
      ∙ sym (ap (λ (w : Walk). map (seen es sizes ss u p) (steps_from p n w)) b)

-- ---- the index on a line

cell_zero : (c : List ℕ) → cell_at c 0 ≡ c
cell_zero [] = refl
cell_zero (x ∷ v) = let e : x + 0 ≡ x = omega arith in ap (λ k. k ∷ v) e

plus_none : (a t b : ℤ) → a +ℤ pos 0 *ℤ t -ℤ b ≡ a -ℤ b
plus_none a t b = ap (λ (z : ℤ). a +ℤ z -ℤ b) (zero-*ℤ t) ∙ ap (λ (z : ℤ). z -ℤ b) (+ℤ_idr a)

-- what a student's line m says, beside the engineer's block m, of a walk from the starts
pub record LineRight (es sizes : List ℕ) (ss : List ℤ) (starts : List ℤ) (m : ℕ) (v : Visit) : Type 0 where
  pub number : (student_of v).number ≡ m
  -- the index is one of the layout, with its count
  pub x : List ℕ
  pub inside : Within es x
  pub count : (student_of v).first.count ≡ length es
  pub first : (student_of v).first.index ≡ padded 64 0 x
  -- "By the original strides each student line's index gives the engineer's offsets, less the starts, on the line of that number."
  pub offsets : (j : ℕ) → j < length sizes → get_or (engineer_of v).offsets j (pos 0) -ℤ get_or starts j (pos 0) ≡ dot x (stride_row ss (length es) j)

-- the index told at a place with k = 0
pub record ToldAt (es sizes : List ℕ) (ss : List ℤ) (u : Purpose) (p : Plan) (zs : List ℤ) (b : Block) : Type 0 where
  pub x : List ℕ
  pub inside : Within es x
  pub tells : told_original es sizes ss u (take p.rank b.counters) ≡ Ok (told x)
  pub offsets : (j : ℕ) → j < length sizes → get_or b.offsets j (pos 0) -ℤ get_or zs j (pos 0) ≡ dot x (stride_row ss (length es) j)

told_at_lem : (es sizes : List ℕ) (ss : List ℤ) (u : Purpose) (p : Plan) (zs : List ℤ) (l : List (Result Stepped Refusal)) → Demand3 es sizes ss u p l zs
    → (m : ℕ) (s : Result Stepped Refusal) (b : Block) → nth l m ≡ Some s → Hands s b → ToldAt es sizes ss u p zs b
told_at_lem es sizes ss u p zs l d m s b e k =
    let o = d.order m s b e k in
    let g : Place es sizes ss u p l m 0 b = record { step = s; there = e; hands = k; below = o.4 } in
    let q = d.meets m 0 b g in
    let y : List ℕ = q.0 in
    let w : Meets es sizes ss u p l m 0 y = q.1 in
    let by : w.by ≡ b = one_block es sizes ss u p l w.place g in
    record {
      x = y;
      inside = w.inside;
      tells =
          sym (ap (λ (t : Block). told_original es sizes ss u (cell_at (take p.rank t.counters) 0)) by ∙ ap (told_original es sizes ss u) (cell_zero (take p.rank b.counters)))
          ∙ d.tells m 0 y w;
      offsets =
          λ j hj. sym (ap (λ (t : Block). get_or t.offsets j (pos 0) +ℤ pos 0 *ℤ get_or t.strides j (pos 0) -ℤ get_or zs j (pos 0)) by
          ∙ plus_none (get_or b.offsets j (pos 0)) (get_or b.strides j (pos 0)) (get_or zs j (pos 0)))
          ∙ d.offsets m 0 y w j hj;
    }

-- the view of the index told
first_view : (n : ℕ) (x : List ℕ) → n ≤ 64 → length x ≡ n → padded 64 0 (take (min n 64) (padded 64 0 x)) ≡ padded 64 0 x
first_view n x h l = let e : min n 64 ≡ n = omega arith in ap (λ (k : ℕ). padded 64 0 (take k (padded 64 0 x))) e ∙ ap (padded 64 0) (take_counted 0 64 n x l h)

-- a step that hands out a block, seen: a visit that does, and its line is right
pub record Seen (es sizes : List ℕ) (ss : List ℤ) (u : Purpose) (p : Plan) (zs : List ℤ) (m : ℕ) (s : Result Stepped Refusal) : Type 0 where
  pub visit : Visit
  pub shows : (lent : Walk) → seen es sizes ss u p s ≡ shown visit (left s lent)
  pub right : LineRight es sizes ss zs m visit

right_line : (es sizes : List ℕ) (ss : List ℤ) (u : Purpose) (p : Plan) (zs : List ℤ) (m : ℕ) (s : Result Stepped Refusal) (b : Block) → length es ≤ 64
    → Hands s b → Numbered p m b → ToldAt es sizes ss u p zs b → Seen es sizes ss u p zs m s
right_line es sizes ss u p zs m s b few k n t = record {
  visit = visit_of p b (told t.x);
  shows = λ lent. seen_block s b k lent (told_original es sizes ss u) p ∙ ap (found_visit p b (left s lent)) t.tells;
  right = record {
    number = n.number;
    x = t.x;
    inside = t.inside;
    count =
        let l = within-length es t.x t.inside in
        let e : min (length t.x) 64 ≡ length es = omega (arith, l, few) in e;
    first =
        let l = within-length es t.x t.inside in
        first_view (length t.x) t.x (omega (arith, l, few)) refl;
    offsets = t.offsets;
  };
}

-- for every machine record and every layout that planning takes, its plan with any block sizes, any starts that are not refused: no visit is
-- refused, a visit answers "ended" where the step does, and each line is right
module _ (mc : Machine) (es sizes : List ℕ) (ss : List ℤ) (u : Purpose) {p : Plan} (hp : planned mc es sizes ss u ≡ Ok p) (bs : List ℕ) where
  abbrev P : Plan
  P = replaced p bs

  all : length p.extents ≡ 64
  all =
      ap (λ (q : Plan). length q.extents) (planned_is mc es sizes ss u hp)
      ∙ plan_extents_lem mc es sizes (plan_axes es (length sizes) ss u) u

  layout_passes : layout_refused es sizes ss u ≡ None
  layout_passes = planning_layout mc es sizes ss u (not-refused mc es sizes ss u hp)

  module _ (zs : List ℤ) {w : Walk} (hb : begun_at (replaced p bs) zs ≡ Ok w) where
    begins : Ready P zs
    begins = served_ready P zs all hb

    -- rows 1 and 2 of the plan pass, since it began, and those of the layout, since it was planned
    passes : visit_refused es sizes ss u P.rank P.operands ≡ None
    unfolding visit_refused layout_refused NoneApplies
    passes =
        let a : NoneApplies (layout_rows es sizes ss u) = none_applies (layout_rows es sizes ss u) layout_passes in
        let b : NoneApplies (step_rows P) = none_applies (step_rows P) begins.taken in
        rw (a.0, b.0, a.1.0, b.1.0, a.1.1.0, a.1.1.1.0, a.1.1.1.1.0, a.1.1.1.1.1.0)

    told_served : (n m : ℕ) (s : Result Stepped Refusal) (b : Block) → nth (steps_from P n w) m ≡ Some s → Hands s b
        → ToldAt es sizes ss u P zs b
    told_served n m s b e k = told_at_lem es sizes ss u P zs (steps_from P n w) (demand3_any mc es sizes ss u hp bs zs hb n) m s b e k

    -- the visits are the steps, seen
    pub visits-seen : (n : ℕ) → visits_from es sizes ss u (replaced p bs) n w ≡ map (seen es sizes ss u (replaced p bs)) (steps_from (replaced p bs) n w)
    visits-seen n = visits_are es sizes ss u P zs begins passes hb n (λ m s e b k. let t = told_served n m s b e k in (told t.x, t.tells))

    -- each step that hands out a block is a visit that does, and its line is right
    pub lines_right : (n m : ℕ) (s : Result Stepped Refusal) (b : Block) → nth (steps_from (replaced p bs) n w) m ≡ Some s → Hands s b
        → Seen es sizes ss u (replaced p bs) zs m s
    lines_right n m s b e k =
        right_line es sizes ss u P zs m s b (layout_counts es sizes ss u layout_passes).axes k (step-number P zs all hb n m s b e k) (told_served n m s b e k)
