-- THE STEPS OF A WALK, by value: from a beginning that is not refused, step n hands out block n of the machine on lists, then "ended" for
-- ever, and none is refused.
-- Assumes nothing.
use Rattle.std.specs.Prelude.{◌≡◌, refl, Bool, true, false, cond, not, List, [], ◌∷◌, ℕ, zero, suc, ◌+◌, ◌≤◌, ◌<◌, eqb, ltb, ℤ, pos, ◌+ℤ◌, length, take, Option, None, Some, Result}
use Rattle.std.proofs.Math.Path.{sym}
use Rattle.std.proofs.Common.{ap, ap₂, ◌∙◌, add-zero, zero-add, arith, length-take, ltb-false, eqb-true}
use Rattle.std.proofs.lemmas.Bool.{false≢true, not-false}
use Rattle.std.proofs.Math.Bool.{not-not}
use Rattle.std.proofs.Math.IntN.{+ℤ_idr}
use Rattle.std.proofs.Math.ListN.{replicate}
use Rattle.std.proofs.lemmas.List.{length-map}
use Rattle.strided.specs.Base.{padded, run, nth, and_then}
use Rattle.strided.specs.Layout.{has_zero}
use Rattle.strided.specs.Refusals.{refused_by}
use Rattle.strided.specs.Walk.{CutAxis, zeros, next, length_at, run_strides}
use Rattle.strided.specs.Begin.{plan_extents, plan_blocks, plan_row, plan_rows, begin_rows, begin_refused, started}
use Rattle.strided.specs.Step.{WalkState, Step, gave, over, state_of, offsets_from, step, plan_cut_axes, unpacked, packed, packed_block, tidy, is_none, may_begin, handed_out, step_rows, stepped, left, walk_after}
use Rattle.strided.specs.Demand3.{steps_from}
use Rattle.strided.specs.declared.Refusal.{Refusal}
use Rattle.strided.specs.declared.Plan.{Plan}
use Rattle.strided.specs.declared.Walk.{Walk}
use Rattle.strided.specs.declared.Block.{Block}
use Rattle.strided.specs.declared.Stepped.{Stepped}
use Rattle.laws.specs.Base.Tests.{both_and, or_none}
use Rattle.laws.specs.Base.Lists.{length_run}
use Rattle.laws.specs.Base.Trace.{after-suc}
use Rattle.laws.specs.Base.Arrays.{take_counted, blank-ℕ, blank-ℤ, blank_behind}
use Rattle.laws.specs.Base.Refusals.{NoneApplies, none_applies}
use Rattle.laws.specs.Walk.States.{begin, state_after, Wide}
use Rattle.laws.specs.Walk.Cuts.{axes_wide, length_cut, length-zeros, length_inside, begin_of}
use Rattle.laws.specs.Walk.Reach.{reach}
use Rattle.laws.specs.Walk.Machine.{reachable_of, starts_offsets, length_offsets, dot-zeros}

-- ---- a walk that begins at 0

padded-zeros : (n : ℕ) (axs : List CutAxis) → padded n 0 (zeros axs) ≡ replicate n 0
padded-zeros zero axs = refl
padded-zeros (suc n) [] = ap (λ r. 0 ∷ r) (padded-zeros n [])
padded-zeros (suc n) (a ∷ axs) = ap (λ r. 0 ∷ r) (padded-zeros n axs)

pub offsets_zeros : (axs : List CutAxis) (tss : List (List ℤ)) (zs : List ℤ) → length zs ≡ length tss → offsets_from tss zs (zeros axs) ≡ zs
offsets_zeros axs [] [] h = refl
offsets_zeros axs [] (z ∷ zs) h = absurd (omega arith)
offsets_zeros axs (ts ∷ tss) [] h = absurd (omega arith)
offsets_zeros axs (ts ∷ tss) (z ∷ zs) h =
    ap₂ (λ a b. a ∷ b) (ap (λ d. z +ℤ d) (dot-zeros axs ts) ∙ +ℤ_idr z) (offsets_zeros axs tss zs (omega arith))

-- ---- a plan whose beginning is taken

pub none_of : (o : Option Refusal) → is_none o ≡ true → o ≡ None
none_of None h = refl
none_of (Some r) h = absurd (false≢true h)

-- rows 1, 2 and 8, and that all the plan's axes are there
pub record Ready (p : Plan) (zs : List ℤ) : Type 0 where
  pub axes : p.rank ≤ 64
  pub few : p.operands ≤ 8
  pub taken : refused_by (step_rows p) ≡ None
  pub long : length (plan_extents p) ≡ p.rank
  pub many : length zs ≡ p.operands
  pub may : may_begin p zs ≡ true

pub ready : (p : Plan) (zs : List ℤ) → length (plan_extents p) ≡ p.rank → begin_refused p zs ≡ None → Ready p zs
unfolding begin_refused NoneApplies
ready p zs l h =
    let a : NoneApplies (begin_rows p zs) = none_applies (begin_rows p zs) h in
    record {
      axes = ltb-false 64 p.rank a.0;
      few = ltb-false 8 p.operands (or_none (eqb p.operands 0) (ltb 8 p.operands) a.1.0).1;
      taken = rw (a.0, a.1.0);
      long = l;
      many = eqb-true (length zs) p.operands (not-false (eqb (length zs) p.operands) a.1.1.1.1.0);
      may = ap is_none h;
    }

-- where the arrays have their 64 places
pub ready_sized : (p : Plan) (zs : List ℤ) → length p.extents ≡ 64 → begin_refused p zs ≡ None → Ready p zs
unfolding begin_refused NoneApplies
ready_sized p zs l h =
    let f : p.rank ≤ 64 = ltb-false 64 p.rank (none_applies (begin_rows p zs) h).0 in
    ready p zs (omega (arith, length-take p.rank p.extents)) h

module _ (p : Plan) (zs : List ℤ) (r : Ready p zs) where
  pub wide : Wide (plan_cut_axes p)
  wide = axes_wide (plan_extents p) (plan_blocks p)

  pub rows-many : length (plan_rows p) ≡ p.operands
  rows-many = length-map (run 0 p.operands) (plan_row p) ∙ length_run 0 p.operands

  pub as_many : length zs ≡ length (plan_rows p)
  as_many = r.many ∙ sym rows-many

  pub cut-many : length (plan_cut_axes p) ≡ p.rank
  cut-many = length_cut (plan_extents p) _ ∙ r.long

  -- the state whose counters are those, or that has ended
  abbrev pub at : Option (List ℕ) → WalkState
  at m = state_of (plan_cut_axes p) (plan_rows p) zs m

  pub counters-many : (n : ℕ) (m : Option (List ℕ)) → state_after (plan_cut_axes p) n ≡ m → length (at m).counters ≡ p.rank
  counters-many n None e = length-zeros (plan_cut_axes p) ∙ cut-many
  counters-many n (Some c) e = length_inside (plan_cut_axes p) c ((reach (plan_cut_axes p) c wide).0 (n, e)).0 ∙ cut-many

  offsets_many : (n : ℕ) (m : Option (List ℕ)) → state_after (plan_cut_axes p) n ≡ m → length (at m).offsets ≡ p.operands
  offsets_many n None e = r.many
  offsets_many n (Some c) e = length_offsets (plan_rows p) zs c as_many ∙ rows-many

  unpack_pack : (g : WalkState) → length g.counters ≡ p.rank → length g.offsets ≡ p.operands → unpacked p (packed g) ≡ g
  unpack_pack g a b =
      let e : not (not g.running) ≡ g.running = not-not g.running in
      let f : take p.rank (padded 64 0 g.counters) ≡ g.counters = take_counted 0 64 p.rank g.counters a r.axes in
      let h : take p.operands (padded 8 (pos 0) g.offsets) ≡ g.offsets = take_counted (pos 0) 8 p.operands g.offsets b r.few in
      λ i. record { running = e i; counters = f i; offsets = h i }

  tidy_pack : (g : WalkState) → length g.counters ≡ p.rank → length g.offsets ≡ p.operands → tidy p (packed g) ≡ true
  tidy_pack g a b = both_and _ _ (blank_behind blank-ℕ 64 p.rank g.counters a) (blank_behind blank-ℤ 8 p.operands g.offsets b)

  step-packed : (g : WalkState) → length g.counters ≡ p.rank → length g.offsets ≡ p.operands
      → stepped p (packed g) ≡ handed_out (step (plan_cut_axes p) (plan_rows p) (may_begin p) g)
  unfolding stepped
  step-packed g a b =
      rw (r.taken, tidy_pack g a b) (ap (λ (h : WalkState). handed_out (step (plan_cut_axes p) (plan_rows p) (may_begin p) h)) (unpack_pack g a b))

  -- the block at the counters c
  abbrev pub made : List ℕ → Block
  made c = packed_block c (length_at (plan_cut_axes p) c) (offsets_from (plan_rows p) zs c) (run_strides (plan_cut_axes p) (plan_rows p))

  -- what the machine gives at a reached state
  abbrev pub raw : Option (List ℕ) → Step
  raw None = over (at None)
  raw (Some c) = gave c (length_at (plan_cut_axes p) c) (offsets_from (plan_rows p) zs c) (run_strides (plan_cut_axes p) (plan_rows p)) (at (next (plan_cut_axes p) c))

  step-raw : (n : ℕ) (m : Option (List ℕ)) → state_after (plan_cut_axes p) n ≡ m → step (plan_cut_axes p) (plan_rows p) (may_begin p) (at m) ≡ raw m
  step-raw n None e = rw (reachable_of (plan_cut_axes p) (plan_rows p) (may_begin p) wide zs as_many r.may n None e)
  step-raw n (Some c) e =
      rw (reachable_of (plan_cut_axes p) (plan_rows p) (may_begin p) wide zs as_many r.may n (Some c) e)
      (ap (λ (z : List ℤ). gave c (length_at (plan_cut_axes p) c) (offsets_from (plan_rows p) zs c) (run_strides (plan_cut_axes p) (plan_rows p)) (state_of (plan_cut_axes p) (plan_rows p) z (next (plan_cut_axes p) c)))
      (starts_offsets (plan_rows p) zs c as_many))

  pub step-at : (n : ℕ) (m : Option (List ℕ)) → state_after (plan_cut_axes p) n ≡ m → stepped p (packed (at m)) ≡ handed_out (raw m)
  step-at n m e = step-packed (at m) (counters-many n m e) (offsets_many n m e) ∙ ap handed_out (step-raw n m e)

  pub raw-walk : (m : Option (List ℕ)) (w : Walk) → left (handed_out (raw m)) w ≡ packed (at (and_then (next (plan_cut_axes p)) m))
  raw-walk None w = refl
  raw-walk (Some c) w = refl

  -- step m of a list of steps
  steps_nth : (n m i : ℕ) (o : Option (List ℕ)) → state_after (plan_cut_axes p) i ≡ o → m < n
      → nth (steps_from p n (packed (at o))) m ≡ Some (handed_out (raw (state_after (plan_cut_axes p) (i + m))))
  steps_nth zero m i o e h = absurd (omega arith)
  steps_nth (suc n) zero i o e h =
      ap Some (step-at i o e ∙ ap (λ (q : Option (List ℕ)). handed_out (raw q)) (sym e ∙ ap (state_after (plan_cut_axes p)) (sym (add-zero i))))
  steps_nth (suc n) (suc m) i o e h =
      let k : suc i + m ≡ i + suc m = omega arith in
      ap (λ (w : Walk). nth (steps_from p n w) m) (ap (λ (s : Result Stepped Refusal). left s (packed (at o))) (step-at i o e) ∙ raw-walk o (packed (at o)))
      ∙ steps_nth n m (suc i) (and_then (next (plan_cut_axes p)) o) (after-suc (next (plan_cut_axes p)) i (begin (plan_cut_axes p)) ∙ ap (and_then (next (plan_cut_axes p))) e) (omega arith)
      ∙ ap (λ (j : ℕ). Some (handed_out (raw (state_after (plan_cut_axes p) j)))) k

  -- where the walk begins
  pub begun-walk : started p zs ≡ packed (at (begin (plan_cut_axes p)))
  begun-walk = rw (begin_of (plan_extents p) _) (go (has_zero (plan_extents p)))
    where
      counters-zero : replicate 64 0 ≡ padded 64 0 (zeros (plan_cut_axes p))
      counters-zero = sym (padded-zeros 64 (plan_cut_axes p))

      offsets_start : padded 8 (pos 0) zs ≡ padded 8 (pos 0) (offsets_from (plan_rows p) zs (zeros (plan_cut_axes p)))
      offsets_start = ap (padded 8 (pos 0)) (sym (offsets_zeros (plan_cut_axes p) (plan_rows p) zs as_many))

      go : (b : Bool) → ◌≡◌ {A = Walk} (record { ended = b; counters = replicate 64 0; offsets = padded 8 (pos 0) zs }) (packed (at (cond b None (Some (zeros (plan_cut_axes p))))))
      go true = λ i. record { ended = true; counters = counters-zero i; offsets = padded 8 (pos 0) zs }
      go false = λ i. record { ended = false; counters = counters-zero i; offsets = offsets_start i }

  -- the steps of a walk from its beginning: step m is there if the list is long enough, and what it is
  pub walk-nth : (n m : ℕ) → m < n → nth (steps_from p n (started p zs)) m ≡ Some (handed_out (raw (state_after (plan_cut_axes p) m)))
  walk-nth n m h =
      ap (λ (w : Walk). nth (steps_from p n w) m) begun-walk ∙ steps_nth n m 0 (begin (plan_cut_axes p)) refl h
      ∙ ap (λ (j : ℕ). Some (handed_out (raw (state_after (plan_cut_axes p) j)))) (zero-add m)

  pub walk-below : (n m : ℕ) (w : Walk) (s : Result Stepped Refusal) → nth (steps_from p n w) m ≡ Some s → m < n
  walk-below zero m w s e = let z : ◌≡◌ {A = ℕ} 0 1 = cc in absurd (omega arith)
  walk-below (suc n) zero w s e = omega arith
  walk-below (suc n) (suc m) w s e = omega (arith, walk-below n m (left (stepped p w) w) s e)

  pub walk_is : (n m : ℕ) (s : Result Stepped Refusal) → nth (steps_from p n (started p zs)) m ≡ Some s → s ≡ handed_out (raw (state_after (plan_cut_axes p) m))
  walk_is n m s e = let h = walk-nth n m (walk-below n m (started p zs) s e) in cc (h, e)

  -- the state after n steps
  walk_from : (n i : ℕ) (o : Option (List ℕ)) → state_after (plan_cut_axes p) i ≡ o → walk_after p n (packed (at o)) ≡ packed (at (state_after (plan_cut_axes p) (i + n)))
  walk_from zero i o e = ap (λ (q : Option (List ℕ)). packed (at q)) (sym e ∙ ap (state_after (plan_cut_axes p)) (sym (add-zero i)))
  walk_from (suc n) i o e =
      let k : suc i + n ≡ i + suc n = omega arith in
      ap (walk_after p n) (ap (λ (s : Result Stepped Refusal). left s (packed (at o))) (step-at i o e) ∙ raw-walk o (packed (at o)))
      ∙ walk_from n (suc i) (and_then (next (plan_cut_axes p)) o) (after-suc (next (plan_cut_axes p)) i (begin (plan_cut_axes p)) ∙ ap (and_then (next (plan_cut_axes p))) e)
      ∙ ap (λ (j : ℕ). packed (at (state_after (plan_cut_axes p) j))) k

  pub walk-state : (n : ℕ) → walk_after p n (started p zs) ≡ packed (at (state_after (plan_cut_axes p) n))
  walk-state n = ap (walk_after p n) begun-walk ∙ walk_from n 0 (begin (plan_cut_axes p)) refl ∙ ap (λ (j : ℕ). packed (at (state_after (plan_cut_axes p) j))) (zero-add n)
