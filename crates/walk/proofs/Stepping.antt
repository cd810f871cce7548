-- Laws of a step: what its rows let through, and its block and its state out of what the functions on arrays leave.
-- Assumes nothing.
use mathlib.Core.Path.{◌≡◌, refl, sym, ap, ap₂, ◌∙◌, subst}
use mathlib.Core.Bool.{Bool, true, false, cond, ◌&&◌, not, false≢true}
use mathlib.Core.List.{List, []}
use Rattle.std.specs.Prelude.{Option, None, Some, Result, Ok, Err}
use Prim.Native.Nat.{ℕ, ◌+◌, ◌≤◌, ◌<◌}
use native.Mathlib.Omega.{arith}
use lib.Dec.{ltb, eqb}
use lib.IntN.{ℤ, pos}
use lib.ListN.{length, get_or}
use borrow.Author.Tests.{eqb-false, le-ltb, ne_eqb}
use Rattle.strided.specs.Base.{padded}
use Rattle.strided.specs.Refusals.{refused_by, answers_unless}
use Rattle.strided.specs.Walk.{length_at, run_strides}
use Rattle.strided.specs.Begin.{plan_rows, begin_refused, begun_at, started}
use Rattle.strided.specs.Step.{plan_cut_axes, unpacked, packed, reachable, may_begin, tidy, step, step_running, over, refused, handed_out, handed_block, step_rows, stepped, walk_after}
use Rattle.strided.specs.Bulk.{next_blocks}
use Rattle.strided.specs.Memory.{walk_of}
use Rattle.strided.specs.declared.Refusal.TheVariants.{State}
use Rattle.strided.specs.declared.Refusal.{Refusal}
use Rattle.strided.specs.declared.Block.{Block}
use Rattle.strided.specs.declared.Plan.{Plan}
use Rattle.strided.specs.declared.Walk.{Walk}
use Rattle.strided.specs.declared.Stepped.{Stepped}
use Rattle.laws.specs.Base.Arrays.{length-padded}
use Rattle.laws.specs.Base.Refusals.{NoneApplies, none_applies}
use Rattle.laws.specs.Base.Tests.{and_both, or_none}
use Rattle.laws.specs.Refusals.Rows.{served_none, served_is}
use Rattle.laws.specs.Walk.States.{state_after, begin}
use Rattle.laws.specs.Walk.Row10.{row10_exact}
use Rattle.laws.specs.Walk.Bulk.{walk_more, blocks_none}
use Rattle.laws.specs.Walk.Steps.{Ready, ready_sized, none_of, at, raw, made, begun-walk, step-at, walk-state}
use Rattle.advance.specs.Axis.{widths, start_of, starts_to}
use Rattle.advance.specs.Carry.{state_of, Roomy, Tiled, AdvancedTo}
use Rattle.advance.specs.declared.State as kept
use Rattle.advance.specs.Blocks.{length_of, firsts_of}
use Rattle.layout.specs.Lent.{lent, Whole}
use Rattle.layout.proofs.Lending.{lent_refuses}
use Rattle.advance.proofs.Plans.{C, O, length_is, firsts_are, first_start}
use Rattle.advance.specs.Sized as plans
use Rattle.advance.proofs.Reached.{tiled, roomy, advanced}
use Rattle.states.specs.Reaches.{reaches}
use Rattle.walk.specs.Lent.{Taken, Answers, over_step}

-- ---- the rows

-- what the lending of the plan refuses, the step refuses too
pub lent_refused : (p : Plan) (w : Walk) {r : Refusal} → Err r ≡ lent p → Err r ≡ stepped p w
unfolding stepped
lent_refused p w h =
    sym (ap (λ (o : Option Refusal). answers_unless o (cond (tidy p w) (handed_out (step (plan_cut_axes p) (plan_rows p) (may_begin p) (unpacked p w))) (Err State))) (lent_refuses p [] h))

module _ (p : Plan) (w : Walk) (A : Whole p) (hc : length w.counters ≡ 64) (ho : length w.offsets ≡ 8) where
  rows : refused_by (step_rows p) ≡ None
  rows =
      let n : p.operands ≡ 0 → ⊥ = λ q. absurd (omega (arith, A.one)) in
      rw (le-ltb 64 p.rank A.axes, ne_eqb p.operands 0 n, le-ltb 8 p.operands A.few)

  module _ {t : Bool} (t-is : t ≡ reaches p w) where
    -- what is taken is what the machine hands out
    stepped_is : stepped p w ≡ cond (tidy p w) (handed_out (step (plan_cut_axes p) (plan_rows p) (may_begin p) (unpacked p w))) (Err State)
    unfolding stepped
    stepped_is = rw rows

    pub state_rejected : t ≡ false → Err State ≡ stepped p w
    unfolding reaches
    state_rejected h = sym (stepped_is ∙ go (tidy p w) (reachable (plan_cut_axes p) (plan_rows p) (may_begin p) (unpacked p w)) refl refl (sym t-is ∙ h))
      where
        go : (x y : Bool) → tidy p w ≡ x → reachable (plan_cut_axes p) (plan_rows p) (may_begin p) (unpacked p w) ≡ y → (x && y) ≡ false
            → cond x (handed_out (cond y (cond (not w.ended) (step_running (plan_cut_axes p) (plan_rows p) (unpacked p w).counters (unpacked p w).offsets) (over (unpacked p w))) refused)) (Err State) ≡ Err State
        go true true a b q = absurd (false≢true (sym q))
        go true false a b q = refl
        go false y a b q = refl

    module _ (th : t ≡ true) where
      not_rejected : stepped p w ≡ Err State → ⊥
      unfolding reaches
      not_rejected h =
          let q = and_both (tidy p w) (reachable (plan_cut_axes p) (plan_rows p) (may_begin p) (unpacked p w)) (sym t-is ∙ th) in
          let e : stepped p w ≡ handed_out (cond (not w.ended) (step_running (plan_cut_axes p) (plan_rows p) (unpacked p w).counters (unpacked p w).offsets) (over (unpacked p w))) = stepped_is ∙ rw (q.0, q.1) in
          go w.ended (sym e ∙ h)
        where
          go : (x : Bool) → handed_out (cond (not x) (step_running (plan_cut_axes p) (plan_rows p) (unpacked p w).counters (unpacked p w).offsets) (over (unpacked p w))) ≡ Err State → ⊥
          go true g = let z : ◌≡◌ {A = ℕ} 0 1 = cc g in omega arith
          go false g = let z : ◌≡◌ {A = ℕ} 0 1 = cc g in omega arith

      pub taken : Taken p w
      taken = record {
        extents-all = A.extents-all;
        blocks_all = A.blocks_all;
        strides_all = A.strides_all;
        counters-all = hc;
        offsets_all = ho;
        rows = rows;
        reached = (row10_exact p w (record { extents-all = A.extents-all; counters-all = hc; offsets_all = ho }) rows).0 not_rejected;
      }

-- ---- a state that is taken

-- the beginning of a walk
pub begun_taken : (p : Plan) (zs : List ℤ) → Ready p zs → plans.Sized p → Taken p (started p zs)
unfolding begun_at
begun_taken p zs r z =
    let e = begun-walk p zs r in
    record {
      extents-all = z.extents-all;
      blocks_all = z.blocks_all;
      strides_all = z.strides_all;
      counters-all = ap (λ (v : Walk). length v.counters) e ∙ length-padded {A = ℕ} 0 64 (at p zs r (begin (plan_cut_axes p))).counters;
      offsets_all = ap (λ (v : Walk). length v.offsets) e ∙ length-padded {A = ℤ} (pos 0) 8 (at p zs r (begin (plan_cut_axes p))).offsets;
      rows = r.taken;
      reached = record { starts = zs; first = started p zs; begins = rw (none_of (begin_refused p zs) r.may); steps = 0; comes = refl };
    }

module _ (p : Plan) (w : Walk) (k : Taken p w) where
  abbrev pub zs : List ℤ
  zs = k.reached.starts

  sized : plans.Sized p
  sized = record { extents-all = k.extents-all; blocks_all = k.blocks_all; strides_all = k.strides_all }

  pub r : Ready p zs
  unfolding begun_at
  r = ready_sized p zs k.extents-all (served_none (begin_refused p zs) _ k.reached.begins)

  abbrev state : Option (List ℕ)
  state = state_after (plan_cut_axes p) k.reached.steps

  -- w is the state begun, so many steps on
  steps-here : w ≡ walk_after p k.reached.steps (started p zs)
  unfolding begun_at
  steps-here = k.reached.comes ∙ ap (walk_after p k.reached.steps) (served_is (begin_refused p zs) _ k.reached.begins)

  comes : w ≡ packed (at p zs r state)
  comes = steps-here ∙ walk-state p zs r k.reached.steps

  -- "A step after the last block answers "ended" again, state unchanged."
  pub ended_step : w.ended ≡ true → over_step w ≡ stepped p w
  ended_step h = go (state_after (plan_cut_axes p) k.reached.steps) refl comes
    where
      go : (m : Option (List ℕ)) → state_after (plan_cut_axes p) k.reached.steps ≡ m → w ≡ packed (at p zs r m) → over_step w ≡ stepped p w
      go None g q = sym (subst (λ (v : Walk). stepped p v ≡ over_step v) (sym q) (step-at p zs r k.reached.steps None g))
      go (Some c) g q = absurd (false≢true (sym (ap (λ (v : Walk). v.ended) q) ∙ h))

  pub ended_none : w.ended ≡ true → (m : ℕ) → next_blocks m p w ≡ []
  ended_none h m = blocks_none p m w (ap handed_block (sym (ended_step h)))

  -- the state after n steps is taken too
  pub taken_after : (n : ℕ) → Taken p (walk_after p n w)
  taken_after n =
      let steps : ℕ = k.reached.steps + n in
      let e : walk_after p n w ≡ walk_after p steps k.reached.first = ap (walk_after p n) k.reached.comes ∙ sym (walk_more p k.reached.steps n k.reached.first) in
      let f : walk_after p n w ≡ packed (at p zs r (state_after (plan_cut_axes p) steps)) = ap (walk_after p n) steps-here ∙ sym (walk_more p k.reached.steps n (started p zs)) ∙ walk-state p zs r steps in
      record {
        extents-all = k.extents-all;
        blocks_all = k.blocks_all;
        strides_all = k.strides_all;
        counters-all = ap (λ (v : Walk). length v.counters) f ∙ length-padded {A = ℕ} 0 64 (at p zs r (state_after (plan_cut_axes p) steps)).counters;
        offsets_all = ap (λ (v : Walk). length v.offsets) f ∙ length-padded {A = ℤ} (pos 0) 8 (at p zs r (state_after (plan_cut_axes p) steps)).offsets;
        rows = k.rows;
        reached = record { starts = zs; first = k.reached.first; begins = k.reached.begins; steps = steps; comes = e };
      }

  -- what a running state has
  pub record Runs : Type 0 where
    pub c : List ℕ
    pub is : state_after (plan_cut_axes p) k.reached.steps ≡ Some c
    pub here : w ≡ packed (at p zs r (Some c))

  pub runs : w.ended ≡ false → Runs
  runs h = go (state_after (plan_cut_axes p) k.reached.steps) refl comes
    where
      go : (m : Option (List ℕ)) → state_after (plan_cut_axes p) k.reached.steps ≡ m → w ≡ packed (at p zs r m) → Runs
      go None g q = absurd (false≢true (sym h ∙ ap (λ (v : Walk). v.ended) q))
      go (Some c) g q = record { c = c; is = g; here = q }

  abbrev pub ws : List ℕ
  ws = widths p

  pub axes-few : p.rank ≤ 64
  axes-few = r.axes

  pub operands_some : 0 < p.operands
  unfolding NoneApplies
  operands_some =
      let h = eqb-false p.operands 0 (or_none (eqb p.operands 0) (ltb 8 p.operands) (none_applies (step_rows p) k.rows).1.0).0 in
      omega (arith, h)

  pub operands_few : p.operands ≤ 8
  operands_few = r.few

  -- v are the block sizes in force as the code has them
  module _ (v : List ℕ) (is : v ≡ ws) where
    pub tiled_here : (x : kept.State) → x.tile_starts ≡ starts_to v x.counters p.rank → Tiled p v x
    tiled_here x e =
        subst (λ (u : List ℕ). Tiled p u x) (sym is)
        (subst (λ (t : List ℕ). Tiled p ws (state_of t x.counters x.offsets)) (sym (e ∙ ap (λ (u : List ℕ). starts_to u x.counters p.rank) is)) (tiled p zs r sized x.counters x.offsets))

  module _ (h : w.ended ≡ false) where
    pub q : Runs
    q = runs h

    pub roomy_here : (t : List ℕ) → Roomy p (state_of t w.counters w.offsets)
    roomy_here t = subst (λ (v : Walk). Roomy p (state_of t v.counters v.offsets)) (sym q.here) (roomy p zs r sized k.reached.steps q.c q.is t)

    -- axis 0 stands where a tile starts
    pub start_here : (v : List ℕ) → v ≡ ws → 0 < p.rank → get_or w.counters 0 0 ≡ start_of (get_or v 0 0) (get_or w.counters 0 0)
    start_here v is =
        subst (λ (u : List ℕ). 0 < p.rank → get_or w.counters 0 0 ≡ start_of (get_or u 0 0) (get_or w.counters 0 0)) (sym is)
        (subst (λ (g : Walk). 0 < p.rank → get_or g.counters 0 0 ≡ start_of (get_or ws 0 0) (get_or g.counters 0 0)) (sym q.here)
        (first_start p zs r sized k.reached.steps q.c q.is))

    -- the block that it is at
    abbrev pub here : Block
    here = made p zs r q.c

    step-here : stepped p w ≡ handed_out (raw p zs r (Some q.c))
    step-here = ap (stepped p) q.here ∙ step-at p zs r k.reached.steps (Some q.c) q.is

    pub block_here : handed_block (stepped p w) ≡ Some here
    block_here = ap handed_block step-here

    pub counters-here : here.counters ≡ w.counters
    counters-here = ap (λ (v : Walk). v.counters) (sym q.here)

    pub offsets_here : here.offsets ≡ w.offsets
    offsets_here = ap (λ (v : Walk). v.offsets) (sym q.here)

    pub length-here : (v : List ℕ) → v ≡ ws → length_of p v w.counters ≡ here.length
    length-here v is =
        ap₂ (λ (u : List ℕ) (g : Walk). length_of p u g.counters) is q.here ∙ length_is p zs r sized k.reached.steps q.c q.is

    -- THE STEP, out of what the functions on arrays gave
    pub block_step : (v : List ℕ) → v ≡ ws → {n : ℕ} {ts : List ℤ} {more : Bool} {t : List ℕ} {at' : kept.State}
        → n ≡ length_of p v w.counters → ts ≡ firsts_of p
        → AdvancedTo p v (state_of t w.counters w.offsets) more at'
        → ◌≡◌ {A = Result Stepped Refusal}
        (Ok (record {
          block = Some (record { counters = w.counters; length = n; offsets = w.offsets; strides = ts });
          walk = record { ended = not more; counters = at'.counters; offsets = at'.offsets };
        })) (stepped p w)
    block_step v is {n} {ts} {more} {t} {at'} e f m =
        let m' : AdvancedTo p ws (state_of t (C p zs r sized q.c) (O p zs r sized q.c)) more at' =
        subst (λ (g : Walk). AdvancedTo p ws (state_of t g.counters g.offsets) more at') q.here
        (subst (λ (u : List ℕ). AdvancedTo p u (state_of t w.counters w.offsets) more at') is m) in
        let len : n ≡ length_at (plan_cut_axes p) q.c =
        e ∙ ap₂ (λ (u : List ℕ) (g : Walk). length_of p u g.counters) is q.here ∙ length_is p zs r sized k.reached.steps q.c q.is in
        let first : ts ≡ padded 8 (pos 0) (run_strides (plan_cut_axes p) (plan_rows p)) = f ∙ firsts_are p zs r sized in
        let walk = advanced p zs r sized k.reached.steps q.c q.is m' in
        (λ i. Ok (record {
          block = Some (record {
            counters = (q.here i).counters;
            length = len i;
            offsets = (q.here i).offsets;
            strides = first i;
          });
          walk = walk i;
        }))
        ∙ sym step-here

-- ---- what is known with an answer

pub answers_at : (p : Plan) (w : Walk) {r s : Result Bool Refusal} → Answers p w r → r ≡ s → Answers p w s
answers_at p w a h = subst (Answers p w) h a

-- ---- a state that runs, put together anew from its parts

pub running : (w : Walk) → w.ended ≡ false → w ≡ walk_of false w.counters w.offsets
running w h = λ i. record { ended = h i; counters = w.counters; offsets = w.offsets }
