-- OUR OWN WALKS BY BLOCKS, WHERE AXIS 0 OF THE PLAN IS AN ORIGINAL AXIS: there the cells of each block go along that axis, so that the walk with
-- each block as one run along it is accepted. For the index in the plan is additive in the original index.
-- Assumes nothing.
use Rattle.std.specs.Prelude.{◌≡◌, refl, Bool, true, false, eqb, ℤ, length, get_or, take, replicate, Option, None, Some, Result}
use Rattle.std.proofs.Math.Path.{sym, ap}
use Rattle.std.proofs.Common.{ap₂, ◌∙◌, subst, add-zero, zero-add, arith}
use mathlib.Core.List.{List, [], ◌∷◌, ◌++◌}
use Prim.Native.Nat.{ℕ, zero, suc, ◌+◌, ◌-◌, ◌*◌, ◌≤◌, ◌<◌}
use Rattle.std.proofs.lemmas.List.{length-replicate}
use Rattle.strided.specs.Base.{over, nth}
use Rattle.strided.specs.Layout.{Axis, no_axis, Within, total, extents, axes_of}
use Rattle.strided.specs.Order.{pick, fusing_order}
use Rattle.strided.specs.Fuse.{fuse, keep, plan_axes}
use Rattle.strided.specs.Index.{Raveled, ravel, ravel_step, pad, original_index, index_in_plan}
use Rattle.strided.specs.Walk.{cell_at}
use Rattle.strided.specs.Text.{Each, FitU}
use Rattle.strided.specs.Plan.{planned}
use Rattle.strided.specs.Begin.{begun_at}
use Rattle.strided.specs.Demand3.{replaced, steps_from, Ends, Place, cell_of, Meets, Demand3}
use Rattle.strided.specs.declared.Machine.{Machine}
use Rattle.strided.specs.declared.Purpose.{Purpose}
use Rattle.strided.specs.declared.Plan.{Plan}
use Rattle.strided.specs.declared.Refusal.{Refusal}
use Rattle.strided.specs.declared.Block.{Block}
use Rattle.strided.specs.declared.Stepped.{Stepped}
use Rattle.strided.specs.Step.{handed_block}
use Rattle.laws.specs.Base.Layouts.{within-length, within-at, within-total, extent_le, length-extents}
use Rattle.laws.specs.Order.Picked.{length-pick}
use Rattle.laws.specs.Fuse.Maps.{plan_in, orig_plan}
use Rattle.laws.specs.Demand3.Served.{one_block}
use Rattle.laws.specs.Demand3.Whole.{demand3_any}
use Rattle.judge.specs.Visits.{Visit, visit_line, VisitFits, Formed}
use Rattle.judge.specs.Judge.{moved, Judgement, Judges}
use Rattle.judge.proofs.Own.{each_fits, text_accepted, told_at, taken, told-met}
use Rattle.judge.proofs.Blocks.{run_by, run_in, runs_before, AlongAxis, blocks_accepted}
use Rattle.judge.specs.declared.Verdict.TheVariants.{Accepted}
use Rattle.std.specs.Prelude.{Ok}
use Rattle.strided.specs.declared.Walk.{Walk}

-- the index with 0 on each of n axes
abbrev pub origin : ℕ → List ℕ
origin n = replicate n 0

-- AXIS 0 OF THE PLAN IS THE ORIGINAL AXIS a: it has as many indices, and one step along a, where there is one, is one step along it
pub record FirstAxis (es : List ℕ) (operands : ℕ) (ss : List ℤ) (u : Purpose) (a : ℕ) : Type 0 where
  pub there : a < length es
  pub extent : get_or (extents (plan_axes es operands ss u)) 0 0 ≡ get_or es a 0
  pub step : 1 < get_or es a 0 → index_in_plan es operands ss u (moved a 1 (origin (length es))) ≡ moved 0 1 (origin (length (plan_axes es operands ss u)))

-- ---- indices added, axis by axis

abbrev plus : List ℕ → List ℕ → List ℕ
plus [] y = []
plus (a ∷ x) [] = []
plus (a ∷ x) (b ∷ y) = (a + b) ∷ plus x y

get_d_plus : (x y : List ℕ) (i : ℕ) → length x ≡ length y → get_or (plus x y) i 0 ≡ get_or x i 0 + get_or y i 0
get_d_plus [] [] i e = refl
get_d_plus [] (b ∷ y) i e = absurd (omega arith)
get_d_plus (a ∷ x) [] i e = absurd (omega arith)
get_d_plus (a ∷ x) (b ∷ y) zero e = refl
get_d_plus (a ∷ x) (b ∷ y) (suc i) e = get_d_plus x y i (omega arith)

pick-plus : (x y o : List ℕ) → length x ≡ length y → pick 0 (plus x y) o ≡ plus (pick 0 x o) (pick 0 y o)
pick-plus x y [] e = refl
pick-plus x y (i ∷ o) e = ap₂ (λ (k : ℕ) (l : List ℕ). k ∷ l) (get_d_plus x y i e) (pick-plus x y o e)

digit : (e i j w v u : ℕ) → w ≡ v + u → w * e + (i + j) ≡ (v * e + i) + (u * e + j)
digit e i j w v u h = let d : w * e ≡ (v + u) * e = ap (λ (k : ℕ). k * e) h in omega arith

ravel-plus : (es fs x y : List ℕ) → length x ≡ length y
    → ((ravel es fs (plus x y)).left ≡ (ravel es fs x).left + (ravel es fs y).left)
    × ((ravel es fs (plus x y)).counters ≡ plus (ravel es fs x).counters (ravel es fs y).counters)
ravel-plus [] fs x y q = (refl, refl)
ravel-plus (e ∷ es) [] x y q = (refl, refl)
ravel-plus (e ∷ es) (f ∷ fs) [] [] q = (refl, refl)
ravel-plus (e ∷ es) (f ∷ fs) [] (j ∷ y) q = absurd (omega arith)
ravel-plus (e ∷ es) (f ∷ fs) (i ∷ x) [] q = absurd (omega arith)
ravel-plus (e ∷ es) (f ∷ fs) (i ∷ x) (j ∷ y) q =
    let h = ravel-plus es fs x y (omega arith) in
    step-plus (eqb f 1) e i j (ravel es fs (plus x y)) (ravel es fs x) (ravel es fs y) h.0 h.1
  where
    step-plus : (b : Bool) (e i j : ℕ) (w v u : Raveled) → w.left ≡ v.left + u.left → w.counters ≡ plus v.counters u.counters
        → let at : Raveled → ℕ → Raveled = λ r n. ravel_step b (r.left * e + n) r.counters in
        ((at w (i + j)).left ≡ (at v i).left + (at u j).left) × ((at w (i + j)).counters ≡ plus (at v i).counters (at u j).counters)
    step-plus true e i j w v u p q = (digit e i j w.left v.left u.left p, q)
    step-plus false e i j w v u p q = (refl, ap₂ (λ (k : ℕ) (l : List ℕ). k ∷ l) (digit e i j w.left v.left u.left p) q)

pad-plus : (ks xs : List Axis) (c d : List ℕ) → pad ks xs (plus c d) ≡ plus (pad ks xs c) (pad ks xs d)
pad-plus [] [] c d = refl
pad-plus [] (a ∷ xs) c d = refl
pad-plus (k ∷ ks) xs c d = refl

-- ---- steps along an axis

moved-zero : (a : ℕ) (x : List ℕ) → moved a 0 x ≡ x
moved-zero a [] = refl
moved-zero zero (y ∷ x) = ap (λ (k : ℕ). k ∷ x) (add-zero y)
moved-zero (suc a) (y ∷ x) = ap (λ (l : List ℕ). y ∷ l) (moved-zero a x)

length_moved : (a k : ℕ) (x : List ℕ) → length (moved a k x) ≡ length x
length_moved a k [] = refl
length_moved zero k (y ∷ x) = refl
length_moved (suc a) k (y ∷ x) = ap suc (length_moved a k x)

plus-origin : (x : List ℕ) → plus x (origin (length x)) ≡ x
plus-origin [] = refl
plus-origin (y ∷ x) = ap₂ (λ (k : ℕ) (l : List ℕ). k ∷ l) (add-zero y) (plus-origin x)

-- one step more
moved_more : (a k : ℕ) (x : List ℕ) → moved a (suc k) x ≡ plus (moved a k x) (moved a 1 (origin (length x)))
moved_more a k [] = refl
moved_more zero k (y ∷ x) = ap₂ (λ (n : ℕ) (l : List ℕ). n ∷ l) (let e : y + suc k ≡ y + k + (0 + 1) = omega arith in e) (sym (plus-origin x))
moved_more (suc a) k (y ∷ x) = ap₂ (λ (n : ℕ) (l : List ℕ). n ∷ l) (sym (add-zero y)) (moved_more a k x)

moved_at_lem : (a k : ℕ) (x : List ℕ) → a < length x → get_or (moved a k x) a 0 ≡ get_or x a 0 + k
moved_at_lem a k [] h = absurd (omega arith)
moved_at_lem zero k (y ∷ x) h = refl
moved_at_lem (suc a) k (y ∷ x) h = moved_at_lem a k x (omega arith)

moved-within : (es x : List ℕ) (a k : ℕ) → Within es x → a < length es → get_or x a 0 + k < get_or es a 0 → Within es (moved a k x)
moved-within [] x a k w h l = absurd (omega arith)
moved-within (e ∷ es) [] a k w h l = absurd w
moved-within (e ∷ es) (y ∷ x) zero k w h l = (l, w.1)
moved-within (e ∷ es) (y ∷ x) (suc a) k w h l = (w.0, moved-within es x a k w.1 (omega arith) l)

-- an index is one with 0 on axis a, moved along it
cleared : (es x : List ℕ) (a : ℕ) → Within es x → a < length es → (z : List ℕ) × Within es z × (x ≡ moved a (get_or x a 0) z)
cleared [] x a w h = absurd (omega arith)
cleared (e ∷ es) [] a w h = absurd w
cleared (e ∷ es) (y ∷ x) zero w h = let l : y < e = w.0 in (0 ∷ x, (omega arith, w.1), ap (λ (n : ℕ). n ∷ x) (sym (zero-add y)))
cleared (e ∷ es) (y ∷ x) (suc a) w h =
    let r = cleared es x a w.1 (omega arith) in
    (y ∷ r.0, (w.0, r.1), ap (λ (l : List ℕ). y ∷ l) r.2)

-- ---- the index in the plan

module _ (es : List ℕ) (m : ℕ) (ss : List ℤ) (u : Purpose) where
  abbrev in_plan : List ℕ → List ℕ
  in_plan x = index_in_plan es m ss u x

  abbrev axes : List Axis
  axes = plan_axes es m ss u

  -- it is additive
  plan_plus : (x y : List ℕ) → length x ≡ length y → in_plan (plus x y) ≡ plus (in_plan x) (in_plan y)
  unfolding index_in_plan
  plan_plus x y e =
      let o : List ℕ = fusing_order es m ss u in
      let xs : List Axis = pick no_axis (axes_of es m ss) o in
      let r : List ℕ → List ℕ = λ l. (ravel (extents xs) (extents (fuse xs)) l).counters in
      ap (λ (l : List ℕ). pad (keep (fuse xs)) (fuse xs) (r l)) (pick-plus x y o e)
      ∙ ap (pad (keep (fuse xs)) (fuse xs)) (ravel-plus (extents xs) (extents (fuse xs)) (pick 0 x o) (pick 0 y o) (length-pick 0 x o ∙ sym (length-pick 0 y o))).1
      ∙ pad-plus (keep (fuse xs)) (fuse xs) (r (pick 0 x o)) (r (pick 0 y o))

  plan_length : (x : List ℕ) → Within es x → length (in_plan x) ≡ length axes
  plan_length x w = within-length (extents axes) (in_plan x) (plan_in es m ss u x w) ∙ length-extents axes

  -- no two indices of the layout have one
  same : (x y : List ℕ) → Within es x → Within es y → in_plan x ≡ in_plan y → x ≡ y
  same x y w v e = sym (orig_plan es m ss u x w) ∙ ap (original_index es m ss u) e ∙ orig_plan es m ss u y v

  module _ (a : ℕ) (f : FirstAxis es m ss u a) where
    rank : 0 < get_or es a 0 → 0 < length axes
    rank h = go axes refl
      where
        go : (l : List Axis) → axes ≡ l → 0 < length l
        go [] q = let n : 0 ≡ get_or es a 0 = ap (λ (k : List Axis). get_or (extents k) 0 0) (sym q) ∙ f.extent in absurd (omega arith)
        go (b ∷ l) q = omega arith

    -- k steps along a are k steps along axis 0
    plan_moved : 1 < get_or es a 0 → (k : ℕ) (x : List ℕ) → Within es x → in_plan (moved a k x) ≡ moved 0 k (in_plan x)
    plan_moved h zero x w = ap in_plan (moved-zero a x) ∙ sym (moved-zero 0 (in_plan x))
    plan_moved h (suc k) x w =
        let n : length x ≡ length es = within-length es x w in
        let g : length (moved a k x) ≡ length (moved a 1 (origin (length x))) = length_moved a k x ∙ sym (length-replicate (length x) 0) ∙ sym (length_moved a 1 (origin (length x))) in
        let s : in_plan (moved a 1 (origin (length x))) ≡ moved 0 1 (origin (length (in_plan x))) =
        ap (λ (i : ℕ). in_plan (moved a 1 (origin i))) n ∙ f.step h ∙ ap (λ (i : ℕ). moved 0 1 (origin i)) (sym (plan_length x w)) in
        ap in_plan (moved_more a k x)
        ∙ plan_plus (moved a k x) (moved a 1 (origin (length x))) g
        ∙ ap₂ plus (plan_moved h k x w) s
        ∙ sym (moved_more 0 k (in_plan x))

    -- what comes behind k steps along axis 0 comes behind k steps along a
    plan_along : (x y : List ℕ) (k : ℕ) → Within es x → Within es y → in_plan y ≡ moved 0 k (in_plan x) → y ≡ moved a k x
    plan_along x y zero w v e = same y x v w (e ∙ moved-zero 0 (in_plan x)) ∙ sym (moved-zero a x)
    plan_along x y (suc k) w v e =
        let n : ℕ = get_or x a 0 in
        let z = cleared es x a w f.there in
        let Some : 0 < length axes = rank (omega (arith, within-at es x a w f.there)) in
        let x-long : 0 < length (in_plan x) = omega (arith, Some, plan_length x w) in
        let z-long : 0 < length (in_plan z.0) = omega (arith, Some, plan_length z.0 z.1) in
        let y-first : get_or (in_plan y) 0 0 ≡ get_or (in_plan x) 0 0 + suc k = ap (λ (l : List ℕ). get_or l 0 0) e ∙ moved_at_lem 0 (suc k) (in_plan x) x-long in
        let y-below : get_or (in_plan y) 0 0 < get_or (extents axes) 0 0 = within-at (extents axes) (in_plan y) 0 (plan_in es m ss u y v) (omega (arith, Some, length-extents axes)) in
        let steps : 1 < get_or es a 0 = omega (arith, y-first, y-below, f.extent) in
        let x-first : get_or (in_plan x) 0 0 ≡ get_or (in_plan z.0) 0 0 + n =
        ap (λ (l : List ℕ). get_or l 0 0) (ap in_plan z.2 ∙ plan_moved steps n z.0 z.1) ∙ moved_at_lem 0 n (in_plan z.0) z-long in
        let inside : Within es (moved a (suc k) x) = moved-within es x a (suc k) w f.there (omega (arith, x-first, y-first, y-below, f.extent)) in
        same y (moved a (suc k) x) v inside (e ∙ sym (plan_moved steps (suc k) x w))

-- ---- the walk

cell_moved : (c : List ℕ) (k : ℕ) → cell_at c k ≡ moved 0 k (cell_at c 0)
cell_moved [] k = refl
cell_moved (s ∷ c) k = ap (λ (n : ℕ). (n + k) ∷ c) (sym (add-zero s))

each_append : (P : Visit → Type 0) (vs ws : List Visit) → Each P vs → Each P ws → Each P (vs ++ ws)
each_append P [] ws p q = q
each_append P (v ∷ vs) ws p q = (p.0, each_append P vs ws p.1 q)

each_over : {A : Type 0} (P : Visit → Type 0) (f : A → List Visit) (l : List A) → ((i : ℕ) (x : A) → nth l i ≡ Some x → Each P (f x)) → Each P (over l f)
each_over P f [] h = tt
each_over P f (x ∷ l) h = each_append P (f x) (over l f) (h 0 x refl) (each_over P f l (λ i y e. h (suc i) y e))

module _ (es sizes : List ℕ) (ss : List ℤ) (u : Purpose) (p : Plan) (steps : List (Result Stepped Refusal)) (few : length es ≤ 64)
    (starts : List ℤ) (d : Demand3 es sizes ss u p steps starts) (a : ℕ) (f : FirstAxis es (length sizes) ss u a) where
  -- the index met at a place: it is told there, and its plan index is the cell's
  record Met (b : Block) (k : ℕ) : Type 0 where
    pub index : List ℕ
    pub inside : Within es index
    pub told : told_at es sizes ss u p steps b k ≡ index
    pub cell : index_in_plan es (length sizes) ss u index ≡ cell_of es sizes ss u p steps k b

  met_at_lem : (m k : ℕ) (b : Block) → Place es sizes ss u p steps m k b → Met b k
  met_at_lem m k b at =
      let w = d.meets m k b at in
      let q : Meets es sizes ss u p steps m k w.0 = w.1 in
      let by-is : q.by ≡ b = one_block es sizes ss u p steps q.place at in
      record {
        index = w.0;
        inside = q.inside;
        told = ap (λ (t : Block). told_at es sizes ss u p steps t k) (sym by-is) ∙ told-met es sizes ss u p steps few starts d m k w.0 q;
        cell = q.index ∙ ap (cell_of es sizes ss u p steps k) by-is;
      }

  -- THE CELLS OF A BLOCK GO ALONG a
  pub first-along : AlongAxis es sizes ss u p steps a
  first-along m k b at =
      let h : k < b.length = at.below in
      let x = met_at_lem m 0 b (record { step = at.step; there = at.there; hands = at.hands; below = omega arith }) in
      let y = met_at_lem m k b at in
      y.told
      ∙ plan_along es (length sizes) ss u a f x.index y.index k x.inside y.inside
      (y.cell ∙ cell_moved (take p.rank b.counters) k ∙ ap (moved 0 k) (sym x.cell))
      ∙ ap (moved a k) (sym x.told)

  -- a block is a run that a line can say
  run_fits : total es ≤ 65536 → (m : ℕ) (s : Result Stepped Refusal) → nth steps m ≡ Some s → Each (VisitFits (length es)) (run_in es sizes ss u p steps a s)
  run_fits t m s e = go (handed_block s) refl
    where
      go : (o : Option Block) → handed_block s ≡ o → Each (VisitFits (length es)) (run_by es sizes ss u p steps a o)
      go None q = tt
      go (Some b) q =
          let some : 0 < b.length = (d.order m s b e q).4 in
          let k : ℕ = b.length - 1 in
          let x = met_at_lem m 0 b (record { step = s; there = e; hands = q; below = some }) in
          let at : Place es sizes ss u p steps m k b = record { step = s; there = e; hands = q; below = omega arith } in
          let y = met_at_lem m k b at in
          let long : length x.index ≡ length es = within-length es x.index x.inside in
          let moves : y.index ≡ moved a k x.index = sym y.told ∙ first-along m k b at ∙ ap (moved a k) x.told in
          let last : get_or y.index a 0 ≡ get_or x.index a 0 + k = ap (λ (l : List ℕ). get_or l a 0) moves ∙ moved_at_lem a k x.index (omega (arith, long, f.there)) in
          let below : get_or y.index a 0 < get_or es a 0 = within-at es y.index a y.inside f.there in
          let extent : get_or es a 0 ≤ total es = extent_le es a (within-total es x.index x.inside) in (
            record {
              there = f.there;
              some = some;
              count = ap length x.told ∙ long;
              axis_fits = omega (arith, f.there, few);
              len_fits = omega (arith, last, below, extent, t);
              index_fits = subst (Each FitU) (sym x.told) (each_fits es x.index t x.inside);
            },
            tt,
          )

  pub runs_formed : total es ≤ 65536 → (m : ℕ) → Formed (length es) (over (runs_before es sizes ss u p steps a m) visit_line) (runs_before es sizes ss u p steps a m)
  runs_formed t m =
      record {
        form = refl;
        fits = each_over (VisitFits (length es)) (run_in es sizes ss u p steps a) (take m steps) (λ i s e. run_fits t i s (taken es sizes ss u p steps steps m i s e).1);
      }

-- OUR OWN WALKS, BLOCK BY BLOCK: as `own_accepted`, where axis 0 of the plan is the original axis a, with each block as one run along a
pub first_accepted : (mc : Machine) (es sizes : List ℕ) (ss : List ℤ) (u : Purpose) (q : Plan) → planned mc es sizes ss u ≡ Ok q
    → length es ≤ 64 → total es ≤ 65536 → (a : ℕ) → FirstAxis es (length sizes) ss u a
    → (bs : List ℕ) (starts : List ℤ) (w : Walk) → begun_at (replaced q bs) starts ≡ Ok w
    → (n : ℕ)
    → let p : Plan = replaced q bs in
    let steps : List (Result Stepped Refusal) = steps_from p n w in
    (m : ℕ) (s : Result Stepped Refusal) (end : Walk) → nth steps m ≡ Some s → Ends s end
    → (marks : List ℕ) → length marks ≡ total es → (j : Judgement) → Judges es (over (runs_before es sizes ss u p steps a m) visit_line) marks j → j.answer ≡ Ok Accepted
first_accepted mc es sizes ss u q hp few t a f bs starts w hb n m s end e h marks k j g =
    let p : Plan = replaced q bs in
    let steps : List (Result Stepped Refusal) = steps_from p n w in
    let d : Demand3 es sizes ss u p steps starts = demand3_any mc es sizes ss u hp bs starts hb n in
    let vs : List Visit = runs_before es sizes ss u p steps a m in
    let there : a < length es = f.there in
    text_accepted es (over vs visit_line) marks vs
    (runs_formed es sizes ss u p steps few starts d a f t m)
    (blocks_accepted mc es sizes ss u q hp few bs starts w hb n a (first-along es sizes ss u p steps few starts d a f) m s end e h)
    (omega arith) few t k j g
