-- MANY STEPS IN ONE CALL hand out the blocks of the walk. So many blocks and then so many more are the blocks of one longer call, and a host
-- that calls again and again, with whatever room each time, gets every block of the walk once and in order.
-- Assumes nothing.
use Rattle.std.specs.Prelude.{◌≡◌, refl, ◌↔◌, List, [], ◌∷◌, ◌++◌, map, ℕ, zero, suc, ◌+◌, ◌≤◌, ◌<◌, ℤ, length, take, drop, Option, None, Some, Result}
use Rattle.std.proofs.Common.{sym, ap, ap₂, ◌∙◌, zero-add, suc-add, arith, drop_of_length-le, take-add, drop-drop}
use Rattle.std.proofs.lemmas.List.{map-append, length-map}
use Rattle.strided.specs.Base.{nth, and_then}
use Rattle.strided.specs.Walk.{CutAxis, counters, next}
use Rattle.strided.specs.Step.{plan_cut_axes, packed, handed_out, stepped, left, handed_block, walk_after}
use Rattle.strided.specs.Bulk.{handing, next_blocks, several_by, several_of, left_many}
use Rattle.strided.specs.Demand3.{steps_from, Hands, Place}
use Rattle.strided.specs.declared.Refusal.{Refusal}
use Rattle.strided.specs.declared.Plan.{Plan}
use Rattle.strided.specs.declared.Purpose.{Purpose}
use Rattle.strided.specs.declared.Walk.{Walk}
use Rattle.strided.specs.declared.Block.{Block}
use Rattle.strided.specs.declared.Stepped.{Stepped}
use Rattle.laws.specs.Base.Lists.{nth-map, nth_none, nth-take, nth_drop}
use Rattle.laws.specs.Base.Sums.{sum}
use Rattle.laws.specs.Base.Trace.{after-suc}
use Rattle.laws.specs.Walk.States.{begin, state_after}
use Rattle.laws.specs.Walk.Reach.{state-nth}
use Rattle.laws.specs.Walk.Steps.{Ready, wide, at, raw, made, step-at, walk_is, walk-below, walk-state}
use Rattle.strided.specs.Begin.{started}

-- ---- at any state

module _ (p : Plan) where
  pub walk_more : (n m : ℕ) (w : Walk) → walk_after p (n + m) w ≡ walk_after p m (walk_after p n w)
  walk_more zero m w = ap (λ (k : ℕ). walk_after p k w) (zero-add m)
  walk_more (suc n) m w = ap (λ (k : ℕ). walk_after p k w) (suc-add n m) ∙ walk_more n m (left (stepped p w) w)

  pub blocks_few : (n : ℕ) (w : Walk) → length (next_blocks n p w) ≤ n
  blocks_few zero w = omega arith
  blocks_few (suc n) w = go (handed_block (stepped p w)) (blocks_few n (left (stepped p w) w))
    where
      go : (o : Option Block) → length (next_blocks n p (left (stepped p w) w)) ≤ n → length (handing o (next_blocks n p (left (stepped p w) w))) ≤ suc n
      go None h = omega arith
      go (Some b) h = omega arith

  -- where one step hands out no block there is none
  pub blocks_none : (n : ℕ) (w : Walk) → handed_block (stepped p w) ≡ None → next_blocks n p w ≡ []
  blocks_none zero w h = refl
  blocks_none (suc n) w h = ap (λ (o : Option Block). handing o (next_blocks n p (left (stepped p w) w))) h

  -- n blocks and then m are n + m blocks, if the n were full
  pub blocks_more : (n m : ℕ) (w : Walk) → length (next_blocks n p w) ≡ n
      → next_blocks (n + m) p w ≡ next_blocks n p w ++ next_blocks m p (walk_after p n w)
  blocks_more zero m w h = ap (λ (k : ℕ). next_blocks k p w) (zero-add m)
  blocks_more (suc n) m w h = ap (λ (k : ℕ). next_blocks k p w) (suc-add n m) ∙ go (handed_block (stepped p w)) h (blocks_more n m v)
    where
      v : Walk
      v = left (stepped p w) w

      go : (o : Option Block) → length (handing o (next_blocks n p v)) ≡ suc n
          → (length (next_blocks n p v) ≡ n → next_blocks (n + m) p v ≡ next_blocks n p v ++ next_blocks m p (walk_after p n v))
          → handing o (next_blocks (n + m) p v) ≡ handing o (next_blocks n p v) ++ next_blocks m p (walk_after p n v)
      go None h ih = absurd (omega arith)
      go (Some b) h ih = ap (λ (r : List Block). b ∷ r) (ih (omega arith))

  -- and no more are left if they were not
  pub blocks_short : (n m : ℕ) (w : Walk) → length (next_blocks n p w) < n → next_blocks (n + m) p w ≡ next_blocks n p w
  blocks_short zero m w h = absurd (omega arith)
  blocks_short (suc n) m w h = ap (λ (k : ℕ). next_blocks k p w) (suc-add n m) ∙ go (handed_block (stepped p w)) h (blocks_short n m v)
    where
      v : Walk
      v = left (stepped p w) w

      go : (o : Option Block) → length (handing o (next_blocks n p v)) < suc n
          → (length (next_blocks n p v) < n → next_blocks (n + m) p v ≡ next_blocks n p v)
          → handing o (next_blocks (n + m) p v) ≡ handing o (next_blocks n p v)
      go None h ih = refl
      go (Some b) h ih = ap (λ (r : List Block). b ∷ r) (ih (omega arith))

  -- the blocks are those of the first steps of the list of steps
  pub blocks_steps : (n : ℕ) (w : Walk) → map Some (next_blocks n p w) ≡ map handed_block (take (length (next_blocks n p w)) (steps_from p n w))
  blocks_steps zero w = refl
  blocks_steps (suc n) w = go (handed_block (stepped p w)) refl (blocks_steps n v)
    where
      v : Walk
      v = left (stepped p w) w

      go : (o : Option Block) → handed_block (stepped p w) ≡ o
          → map Some (next_blocks n p v) ≡ map handed_block (take (length (next_blocks n p v)) (steps_from p n v))
          → map Some (handing o (next_blocks n p v)) ≡ map handed_block (take (length (handing o (next_blocks n p v))) (stepped p w ∷ steps_from p n v))
      go None e ih = refl
      go (Some b) e ih = ap₂ (λ (x : Option Block) (r : List (Option Block)). x ∷ r) (sym e) ih

  -- block m is handed out by step m
  pub block_hands : (n m : ℕ) (w : Walk) (b : Block) → nth (next_blocks n p w) m ≡ Some b
      → (s : Result Stepped Refusal) × (nth (steps_from p n w) m ≡ Some s) × Hands s b
  block_hands zero m w b e = let z : ◌≡◌ {A = ℕ} 0 1 = cc in absurd (omega arith)
  block_hands (suc n) m w b e = go (handed_block (stepped p w)) refl m e (λ j f. block_hands n j v b f)
    where
      v : Walk
      v = left (stepped p w) w

      go : (o : Option Block) → handed_block (stepped p w) ≡ o → (m : ℕ) → nth (handing o (next_blocks n p v)) m ≡ Some b
          → ((j : ℕ) → nth (next_blocks n p v) j ≡ Some b → (s : Result Stepped Refusal) × (nth (steps_from p n v) j ≡ Some s) × Hands s b)
          → (s : Result Stepped Refusal) × (nth (stepped p w ∷ steps_from p n v) m ≡ Some s) × Hands s b
      go None a m e ih = let z : ◌≡◌ {A = ℕ} 0 1 = cc in absurd (omega arith)
      go (Some d) a zero e ih = (stepped p w, refl, a ∙ e)
      go (Some d) a (suc j) e ih = ih j e

-- ---- at the states of a walk

-- calls with room for so many blocks each, handed the state that the last one returned: what they hand out
abbrev pub called : List ℕ → Plan → Walk → List Block
called [] p w = []
called (n ∷ ns) p w = next_blocks n p w ++ called ns p (left_many (several_of p w (next_blocks n p w)) w)

module _ {A : Type 0} where
  drop_full : (n : ℕ) (l : List A) → drop (length (take n l)) l ≡ drop n l
  drop_full zero l = refl
  drop_full (suc n) [] = refl
  drop_full (suc n) (x ∷ l) = drop_full n l

  take_more : (n m : ℕ) (l : List A) → take (n + m) l ≡ take n l ++ take m (drop (length (take n l)) l)
  take_more n m l = take-add n m l ∙ ap (λ (r : List A). take n l ++ take m r) (sym (drop_full n l))

module _ (p : Plan) (zs : List ℤ) (r : Ready p zs) where
  abbrev axs : List CutAxis
  axs = plan_cut_axes p

  -- the state after i steps
  abbrev pub state : ℕ → Walk
  state i = packed (at p zs r (state_after axs i))

  state_more : (i n : ℕ) → walk_after p n (state i) ≡ state (i + n)
  state_more i n = ap (walk_after p n) (sym (walk-state p zs r i)) ∙ sym (walk_more p i n (started p zs)) ∙ walk-state p zs r (i + n)

  -- from state i on, the blocks i, i + 1, .. of the plan
  pub blocks_from : (n i : ℕ) → next_blocks n p (state i) ≡ map (made p zs r) (take n (drop i (counters axs)))
  blocks_from zero i = refl
  blocks_from (suc n) i = go (state_after axs i) refl (blocks_from n (suc i))
    where
      handed : Walk → Result Stepped Refusal → List Block
      handed w s = handing (handed_block s) (next_blocks n p (left s w))

      go : (o : Option (List ℕ)) → state_after axs i ≡ o → next_blocks n p (state (suc i)) ≡ map (made p zs r) (take n (drop (suc i) (counters axs)))
          → next_blocks (suc n) p (packed (at p zs r o)) ≡ map (made p zs r) (take (suc n) (drop i (counters axs)))
      go None e ih =
          let h : length (counters axs) ≤ i = (nth_none (counters axs) i).0 (sym (state-nth axs (wide p zs r) i) ∙ e) in
          ap (handed (packed (at p zs r None))) (step-at p zs r i None e) ∙ ap (λ (l : List (List ℕ)). map (made p zs r) (take (suc n) l)) (sym (drop_of_length-le (counters axs) h))
      go (Some c) e ih =
          let q : state (suc i) ≡ packed (at p zs r (next axs c)) =
          ap (λ (o : Option (List ℕ)). packed (at p zs r o)) (after-suc (next axs) i (begin axs) ∙ ap (and_then (next axs)) e) in
          ap (handed (packed (at p zs r (Some c)))) (step-at p zs r i (Some c) e)
          ∙ ap (λ (l : List Block). made p zs r c ∷ l) (ap (next_blocks n p) (sym q) ∙ ih)
          ∙ ap (λ (l : List (List ℕ)). map (made p zs r) (take (suc n) l)) (sym (nth_drop (counters axs) i c (sym (state-nth axs (wide p zs r) i) ∙ e)))

  -- ONE CALL from the beginning: the first n blocks of the plan, in document 01's order, or all of them
  pub first_blocks : (n : ℕ) → next_blocks n p (started p zs) ≡ map (made p zs r) (take n (counters axs))
  first_blocks n = ap (next_blocks n p) (walk-state p zs r 0) ∙ blocks_from n 0

  -- a state of the walk is not refused, so the call returns the state after its blocks
  returned : (i n : ℕ) (w : Walk) → left_many (several_by (stepped p (state i)) n w) (state i) ≡ w
  returned i n w = go (state_after axs i) refl
    where
      go : (o : Option (List ℕ)) → state_after axs i ≡ o → left_many (several_by (stepped p (packed (at p zs r o))) n w) (packed (at p zs r o)) ≡ w
      go None e = ap (λ (s : Result Stepped Refusal). left_many (several_by s n w) (packed (at p zs r None))) (step-at p zs r i None e)
      go (Some c) e = ap (λ (s : Result Stepped Refusal). left_many (several_by s n w) (packed (at p zs r (Some c)))) (step-at p zs r i (Some c) e)

  -- MANY CALLS, each with any room: the blocks of one call with room for all
  pub calls_are : (ns : List ℕ) (i : ℕ) → called ns p (state i) ≡ next_blocks (sum ns (λ n. n)) p (state i)
  calls_are [] i = refl
  calls_are (n ∷ ns) i =
      let l : List (List ℕ) = drop i (counters axs) in
      let m : ℕ = sum ns (λ k. k) in
      let k : ℕ = length (take n l) in
      let hk : length (next_blocks n p (state i)) ≡ k = ap length (blocks_from n i) ∙ length-map (take n l) (made p zs r) in
      let e : left_many (several_of p (state i) (next_blocks n p (state i))) (state i) ≡ state (i + k) =
      returned i (length (next_blocks n p (state i))) (walk_after p (length (next_blocks n p (state i))) (state i)) ∙ ap (λ (j : ℕ). walk_after p j (state i)) hk ∙ state_more i k in
      ap₂ (λ (a b : List Block). a ++ b) (blocks_from n i)
      (ap (called ns p) e ∙ calls_are ns (i + k) ∙ blocks_from m (i + k) ∙ ap (λ (x : List (List ℕ)). map (made p zs r) (take m x)) (sym (drop-drop k i (counters axs))))
      ∙ sym (map-append (made p zs r) (take n l) (take m (drop k l)))
      ∙ ap (map (made p zs r)) (sym (take_more n m l))
      ∙ sym (blocks_from (n + m) i)

  -- ---- and demand 3's list of steps

  -- block m of one call is the block that step m hands out
  pub hands_block : (n m : ℕ) (b : Block)
      → (nth (next_blocks n p (started p zs)) m ≡ Some b) ↔ ((s : Result Stepped Refusal) × (nth (steps_from p n (started p zs)) m ≡ Some s) × Hands s b)
  hands_block n m b = (block_hands p n m (started p zs) b, λ h. from (state_after axs m) refl h.0 h.1 h.2)
    where
      from : (o : Option (List ℕ)) → state_after axs m ≡ o → (s : Result Stepped Refusal) → nth (steps_from p n (started p zs)) m ≡ Some s → Hands s b
          → nth (next_blocks n p (started p zs)) m ≡ Some b
      from None e s h a =
          let q : s ≡ handed_out (raw p zs r None) = walk_is p zs r n m s h ∙ ap (λ (o : Option (List ℕ)). handed_out (raw p zs r o)) e in
          let f : None ≡ Some b = sym (ap handed_block q) ∙ a in
          let z : ◌≡◌ {A = ℕ} 0 1 = cc f in absurd (omega arith)
      from (Some c) e s h a =
          let q : s ≡ handed_out (raw p zs r (Some c)) = walk_is p zs r n m s h ∙ ap (λ (o : Option (List ℕ)). handed_out (raw p zs r o)) e in
          let d : m < n = walk-below p zs r n m (started p zs) s h in
          ap (λ (l : List Block). nth l m) (first_blocks n)
          ∙ nth-map (made p zs r) (take n (counters axs)) m c (nth-take (counters axs) n m d ∙ sym (state-nth axs (wide p zs r) m) ∙ e)
          ∙ (sym (ap handed_block q) ∙ a)

  -- a place of demand 3 is a block of the call and a k below its length
  pub place_block : (es sizes : List ℕ) (ss : List ℤ) (u : Purpose) (n m k : ℕ) (b : Block)
      → Place es sizes ss u p (steps_from p n (started p zs)) m k b ↔ ((nth (next_blocks n p (started p zs)) m ≡ Some b) × (k < b.length))
  place_block es sizes ss u n m k b = (
    λ q. ((hands_block n m b).1 (q.step, q.there, q.hands), q.below),
    λ q. let h = (hands_block n m b).0 q.0 in record { step = h.0; there = h.1; hands = h.2; below = q.1 },
  )
