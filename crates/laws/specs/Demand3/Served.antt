-- DEMAND 3, part by part, for a plan that is ready to begin and whose extents and strides are those of its layout's plan.
-- Assumes nothing.
use Rattle.std.specs.Prelude.{◌≡◌, refl, ◌↔◌, ◌⊎◌, List, [], ℕ, ◌+◌, ◌*◌, ◌≤◌, ◌<◌, ℤ, pos, ◌+ℤ◌, ◌-ℤ◌, ◌*ℤ◌, length, get_or, take, Option, None, Some, Result, Ok}
use Rattle.std.proofs.Common.{sym, ap, ap₂, ◌∙◌, subst, inl, inr, arith}
use Rattle.strided.specs.Base.{padded, nth}
use Rattle.strided.specs.Layout.{Within, dot, extents, row, stride_row}
use Rattle.strided.specs.Refusals.{layout_refused}
use Rattle.strided.specs.Fuse.{plan_axes}
use Rattle.strided.specs.Index.{index_in_plan, original_index, told_original, told}
use Rattle.strided.specs.Walk.{CutAxis, block, block_at, blocks_of, counters, cell_at, run_strides, length_at}
use Rattle.strided.specs.Begin.{plan_extents, plan_row, plan_rows, started}
use Rattle.strided.specs.Step.{offsets_from, plan_cut_axes, packed, handed_out, left, handed_block}
use Rattle.strided.specs.Demand3.{steps_from, Hands, Ends, Place, cell_of, Meets, Demand3}
use Rattle.strided.specs.declared.Purpose.{Purpose}
use Rattle.strided.specs.declared.Refusal.{Refusal}
use Rattle.strided.specs.declared.Plan.{Plan}
use Rattle.strided.specs.declared.Walk.{Walk}
use Rattle.strided.specs.declared.Block.{Block}
use Rattle.strided.specs.declared.Stepped.{Stepped}
use Rattle.laws.specs.Base.Lists.{nth-map, get_d_run}
use Rattle.laws.specs.Base.Arrays.{take_counted, get_d_padded}
use Rattle.laws.specs.Fuse.Maps.{plan_in, orig_in, orig_plan, plan_orig, same-dot}
use Rattle.laws.specs.Fuse.Entries.{original_told}
use Rattle.laws.specs.Walk.States.{state_after, Inside}
use Rattle.laws.specs.Walk.Cuts.{cut_inside}
use Rattle.laws.specs.Walk.Reach.{state-nth}
use Rattle.laws.specs.Walk.Places.{MeetsPlan, length_pos, meets_inside, meets_once, ended_iff}
use Rattle.laws.specs.Walk.Offsets.{place_offset}
use Rattle.laws.specs.Walk.Steps.{Ready, at, made, raw, wide, as_many, rows-many, counters-many, walk-nth, walk-below, walk_is}

-- places of one step are places of one block
pub one_block : (es sizes : List ℕ) (ss : List ℤ) (u : Purpose) (p : Plan) (steps : List (Result Stepped Refusal)) {m k l : ℕ} {b d : Block}
    → Place es sizes ss u p steps m k b → Place es sizes ss u p steps m l d → b ≡ d
one_block es sizes ss u p steps {m} {k} {l} {b} {d} q g =
    let e = q.there in
    let f = g.there in
    let s : q.step ≡ g.step = cc (e, f) in
    let t : Some b ≡ Some d = sym q.hands ∙ ap handed_block s ∙ g.hands in cc t

module _ (es sizes : List ℕ) (ss : List ℤ) (u : Purpose) (p : Plan) (zs : List ℤ) (n : ℕ)
    (hl : layout_refused es sizes ss u ≡ None) (hs : length ss ≡ length es * length sizes)
    (r : Ready p zs) (fo : p.operands ≡ length sizes)
    (fe : plan_extents p ≡ extents (plan_axes es (length sizes) ss u))
    (ft : (k : ℕ) → k < length sizes → plan_row p k ≡ row k (plan_axes es (length sizes) ss u)) where
  abbrev L : List (Result Stepped Refusal)
  L = steps_from p n (started p zs)

  abbrev ls : List CutAxis
  ls = plan_cut_axes p

  abbrev M : ℕ
  M = length sizes

  -- what a step was, and the block that it handed out
  abbrev was : Option (List ℕ) → Result Stepped Refusal
  was o = handed_out (raw p zs r o)

  abbrev out : List ℕ → Block
  out c = made p zs r c

  cases : (o : Option (List ℕ)) (s : Result Stepped Refusal) → s ≡ was o → ((b : Block) × Hands s b) ⊎ ((w : Walk) × Ends s w)
  cases None s e = inr (packed (at p zs r None), e)
  cases (Some c) s e = inl (out c, ap handed_block e)

  was_block : (o : Option (List ℕ)) (s : Result Stepped Refusal) (b : Block) → s ≡ was o → Hands s b → (c : List ℕ) × (o ≡ Some c) × (b ≡ out c)
  was_block None s b e h =
      let q : None ≡ Some b = sym (ap handed_block e) ∙ h in
      let z : ◌≡◌ {A = ℕ} 0 1 = cc q in absurd (omega arith)
  was_block (Some c) s b e h = let q : Some (out c) ≡ Some b = sym (ap handed_block e) ∙ h in (c, refl, cc q)

  was_end : (o : Option (List ℕ)) (s : Result Stepped Refusal) (w : Walk) → s ≡ was o → Ends s w → o ≡ None
  was_end None s w e h = refl
  was_end (Some c) s w e h =
      let q : Some (out c) ≡ None = sym (ap handed_block e) ∙ ap handed_block h in
      let z : ◌≡◌ {A = ℕ} 0 1 = cc q in absurd (omega arith)

  -- a block's counters are read back
  counters-back : (m : ℕ) (c : List ℕ) → state_after ls m ≡ Some c → take p.rank (padded 64 0 c) ≡ c
  counters-back m c e = take_counted 0 64 p.rank c (counters-many p zs r m (Some c) e) r.axes

  -- the block that step m hands out
  pub record HandedAt (m : ℕ) (b : Block) : Type 0 where
    pub c : List ℕ
    pub state : state_after ls m ≡ Some c
    pub is : b ≡ out c

  handed : (m : ℕ) (s : Result Stepped Refusal) (b : Block) → nth L m ≡ Some s → Hands s b → HandedAt m b
  handed m s b e h =
      let d = was_block (state_after ls m) s b (walk_is p zs r n m s e) h in
      record { c = d.0; state = d.1; is = d.2 }

  -- the block of a place
  of_place : (m k : ℕ) (b : Block) → Place es sizes ss u p L m k b → HandedAt m b
  of_place m k b q = handed m q.step b q.there q.hands

  cell_back : (m k : ℕ) (b : Block) (h : HandedAt m b) → cell_of es sizes ss u p L k b ≡ cell_at h.c k
  cell_back m k b h =
      ap (λ (t : Block). cell_at (take p.rank t.counters) k) h.is ∙ ap (λ (v : List ℕ). cell_at v k) (counters-back m h.c h.state)

  -- ---- places of the walk and places of the plan

  to_plan : (m k : ℕ) (b : Block) → Place es sizes ss u p L m k b → MeetsPlan ls m k (cell_of es sizes ss u p L k b)
  to_plan m k b q =
      let h = of_place m k b q in
      let below : k < length_at ls h.c = subst (λ (t : Block). k < t.length) h.is q.below in
      record { c = h.c; state = h.state; below = below; index = cell_back m k b h }

  inside : (y : List ℕ) → Inside ls y ↔ Within (extents (plan_axes es M ss u)) y
  inside y =
      let f = cut_inside (plan_extents p) _ y in
      ((λ i. subst (λ (l : List ℕ). Within l y) fe (f.0 i)), (λ i. f.1 (subst (λ (l : List ℕ). Within l y) (sym fe) i)))

  cell_within : (m k : ℕ) (b : Block) → Place es sizes ss u p L m k b → Within (extents (plan_axes es M ss u)) (cell_of es sizes ss u p L k b)
  cell_within m k b q = (inside (cell_of es sizes ss u p L k b)).0 (meets_inside ls (wide p zs r) m k (cell_of es sizes ss u p L k b) (to_plan m k b q))

  met : (m k : ℕ) (x : List ℕ) → Meets es sizes ss u p L m k x → MeetsPlan ls m k (index_in_plan es M ss u x)
  met m k x q = subst (λ (y : List ℕ). MeetsPlan ls m k y) (sym q.index) (to_plan m k q.by q.place)

  from_plan : (m k : ℕ) (x : List ℕ) → m < n → Within es x → MeetsPlan ls m k (index_in_plan es M ss u x) → Meets es sizes ss u p L m k x
  from_plan m k x h i q =
      let e : nth L m ≡ Some (was (Some q.c)) = walk-nth p zs r n m h ∙ ap (λ (o : Option (List ℕ)). Some (was o)) q.state in
      record {
        by = out q.c;
        place = record { step = was (Some q.c); there = e; hands = refl; below = q.below };
        inside = i;
        index = q.index ∙ ap (λ (v : List ℕ). cell_at v k) (sym (counters-back m q.c q.state));
      }

  -- ---- the parts

  taken' : (m : ℕ) (s : Result Stepped Refusal) → nth L m ≡ Some s → ((b : Block) × Hands s b) ⊎ ((w : Walk) × Ends s w)
  taken' m s e = cases (state_after ls m) s (walk_is p zs r n m s e)

  ends_to : (m : ℕ) (s : Result Stepped Refusal) (w : Walk) → nth L m ≡ Some s → Ends s w
      → (x : List ℕ) → Within es x → (i : ℕ) × (k : ℕ) × (i < m) × Meets es sizes ss u p L i k x
  ends_to m s w e h x hx =
      let o : state_after ls m ≡ None = was_end (state_after ls m) s w (walk_is p zs r n m s e) h in
      let b : m < n = walk-below p zs r n m (started p zs) s e in
      let q = (ended_iff ls (wide p zs r) m).0 o (index_in_plan es M ss u x) ((inside (index_in_plan es M ss u x)).1 (plan_in es M ss u x hx)) in
      let l : q.0 < m = q.2 in
      (q.0, q.1, q.2, from_plan q.0 q.1 x (omega (arith, b, l)) hx q.3)

  ends_from : (m : ℕ) (s : Result Stepped Refusal) → nth L m ≡ Some s
      → ((x : List ℕ) → Within es x → (i : ℕ) × (k : ℕ) × (i < m) × Meets es sizes ss u p L i k x) → (w : Walk) × Ends s w
  ends_from m s e h =
      (packed (at p zs r None), walk_is p zs r n m s e ∙ ap was ((ended_iff ls (wide p zs r) m).1 all))
    where
      all : (y : List ℕ) → Inside ls y → (i : ℕ) × (k : ℕ) × (i < m) × MeetsPlan ls i k y
      all y hy =
          let hy' = (inside y).0 hy in
          let q = h (original_index es M ss u y) (orig_in es M ss u y hy') in
          (q.0, q.1, q.2, subst (λ (v : List ℕ). MeetsPlan ls q.0 q.1 v) (plan_orig es M ss u y hy') (met q.0 q.1 (original_index es M ss u y) q.3))

  order' : (m : ℕ) (s : Result Stepped Refusal) (b : Block) → nth L m ≡ Some s → Hands s b
      → (c : List ℕ) × (nth (blocks_of (plan_cut_axes p)) m ≡ Some (block c b.length)) × (b.counters ≡ padded 64 0 c)
      × (b.strides ≡ padded 8 (pos 0) (run_strides (plan_cut_axes p) (plan_rows p))) × (0 < b.length)
  order' m s b e h =
      let d = handed m s b e h in
      let c : List ℕ = d.c in
      let len : length_at ls c ≡ b.length = sym (ap (λ (t : Block). t.length) d.is) in (
        c,
        nth-map (block_at ls) (counters ls) m c (sym (state-nth ls (wide p zs r) m) ∙ d.state) ∙ ap (λ (l : ℕ). Some (block c l)) len,
        ap (λ (t : Block). t.counters) d.is,
        ap (λ (t : Block). t.strides) d.is,
        subst (λ (l : ℕ). 0 < l) len (length_pos ls m c (wide p zs r) d.state),
      )

  -- the index met at a place, by the index told there
  told-met : (m k : ℕ) (x : List ℕ) (q : Meets es sizes ss u p L m k x) → original_index es M ss u (cell_of es sizes ss u p L k q.by) ≡ x
  told-met m k x q = ap (original_index es M ss u) (sym q.index) ∙ orig_plan es M ss u x q.inside

  meets' : (m k : ℕ) (b : Block) → Place es sizes ss u p L m k b
      → (x : List ℕ) × Meets es sizes ss u p L m k x × ((y : List ℕ) → Meets es sizes ss u p L m k y → y ≡ x)
  meets' m k b q =
      let c : List ℕ = cell_of es sizes ss u p L k b in
      let w = cell_within m k b q in (
        original_index es M ss u c,
        record { by = b; place = q; inside = orig_in es M ss u c w; index = plan_orig es M ss u c w },
        λ y g. sym (told-met m k y g) ∙ ap (λ (t : Block). original_index es M ss u (cell_of es sizes ss u p L k t)) (one_block es sizes ss u p L g.place q),
      )

  once' : (m k i j : ℕ) (x : List ℕ) → Meets es sizes ss u p L m k x → Meets es sizes ss u p L i j x → (m ≡ i) × (k ≡ j)
  once' m k i j x a b = meets_once ls (wide p zs r) m k i j (index_in_plan es M ss u x) (met m k x a) (met i j x b)

  tells' : (m k : ℕ) (x : List ℕ) (q : Meets es sizes ss u p L m k x)
      → told_original es sizes ss u (cell_of es sizes ss u p L k q.by) ≡ Ok (told x)
  tells' m k x q =
      original_told es sizes ss u hl (cell_of es sizes ss u p L k q.by) (cell_within m k q.by q.place)
      ∙ ap (λ (y : List ℕ). Ok (told y)) (told-met m k x q)

  offsets' : (m k : ℕ) (x : List ℕ) (q : Meets es sizes ss u p L m k x) (j : ℕ) → j < length sizes
      → get_or q.by.offsets j (pos 0) +ℤ pos k *ℤ get_or q.by.strides j (pos 0) -ℤ get_or zs j (pos 0) ≡ dot x (stride_row ss (length es) j)
  offsets' m k x q j hj =
      let d = of_place m k q.by q.place in
      let c : List ℕ = d.c in
      let b : k < length_at ls c = subst (λ (t : Block). k < t.length) d.is q.place.below in
      let f : p.operands ≤ 8 = r.few in
      let j8 : j < 8 = omega (arith, f, fo, hj) in
      let jr : j < length (plan_rows p) = omega (arith, rows-many p zs r, fo, hj) in
      let jo : j < p.operands = omega (arith, fo, hj) in
      let z : 0 + j ≡ j = omega arith in
      let rowj : get_or (plan_rows p) j [] ≡ row j (plan_axes es M ss u) = get_d_run (plan_row p) [] p.operands 0 j jo ∙ ap (plan_row p) z ∙ ft j hj in
      let cell : cell_at c k ≡ cell_of es sizes ss u p L k q.by = sym (cell_back m k q.by d) in
      ap (λ (t : Block). get_or t.offsets j (pos 0) +ℤ pos k *ℤ get_or t.strides j (pos 0) -ℤ get_or zs j (pos 0)) d.is
      ∙ ap₂ (λ (a v : ℤ). a +ℤ pos k *ℤ v -ℤ get_or zs j (pos 0)) (get_d_padded (pos 0) 8 (offsets_from (plan_rows p) zs c) j j8) (get_d_padded (pos 0) 8 (run_strides ls (plan_rows p)) j j8)
      ∙ place_offset ls (plan_rows p) zs c k j (as_many p zs r) jr b
      ∙ ap₂ (λ (v : List ℕ) (t : List ℤ). dot v t) cell rowj
      ∙ same-dot es M ss u (cell_of es sizes ss u p L k q.by) (cell_within m k q.by q.place) hs j hj
      ∙ ap (λ (v : List ℕ). dot v (stride_row ss (length es) j)) (told-met m k x q)

  back' : (m : ℕ) (s : Result Stepped Refusal) (w : Walk) → nth L m ≡ Some s → Ends s w → w.offsets ≡ padded 8 (pos 0) zs
  back' m s w e h =
      let q = walk_is p zs r n m s e in
      let o : state_after ls m ≡ None = was_end (state_after ls m) s w q h in
      ap (λ (t : Result Stepped Refusal). (left t w).offsets) (sym h ∙ q ∙ ap was o)

  pub claim : Demand3 es sizes ss u p L zs
  claim =
      record {
        taken = taken';
        ends = λ m s e. (λ h. ends_to m s h.0 e h.1, ends_from m s e);
        order = order';
        meets = meets';
        once = once';
        tells = tells';
        offsets = offsets';
        back = back';
      }
