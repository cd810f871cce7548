-- THE PLACES OF A WALK: each meets one plan index within the extents, each such index is met at exactly one, and the walk has ended exactly
-- when all were met. Demand 3 for the plan alone.
-- Assumes nothing.
use Rattle.std.specs.Prelude.{◌≡◌, refl, ◌↔◌, Bool, true, false, List, [], ◌∷◌, ℕ, ◌+◌, ◌-◌, ◌≤◌, ◌<◌, ltb, Option, None, Some}
use Rattle.std.proofs.Common.{sym, ap, ap₂, ◌∙◌, ltb-true, ltb-false}
use native.Mathlib.Omega.{arith}
use Rattle.strided.specs.Base.{run}
use Rattle.strided.specs.Walk.{CutAxis, ax, counters, length_at, block, block_at, blocks_of, cell_at}
use Rattle.laws.specs.Base.Lists.{nth-before, run-all}
use Rattle.laws.specs.Base.Sums.{sum, mul_pos, sum_over, sum-map, sum_pos, pos_sum, sum_twice}
use Rattle.laws.specs.Base.Counting.{same, same_list, count, run_in_lem, nil_row, count-row, same_list_refl, same_list_pos, all_counted}
use Rattle.laws.specs.Walk.States.{cells, Wide, Inside, state_after}
use Rattle.laws.specs.Walk.Cover.{in_range, cover, one_inside, inside_one, in_range-one}
use Rattle.laws.specs.Walk.Reach.{state-nth, reach}

-- ---- the cells of one block

cells_have : (c : List ℕ) (n k : ℕ) → k < n → 0 < count (cell_at c k) (cells (block c n))
cells_have [] n k h = omega arith
cells_have (s ∷ v) n k h = rw (count-row (s + k) v (run s n) v, run_in_lem n s (s + k) (omega arith) (omega arith), same_list_refl v) (omega arith)

cells-place : (c : List ℕ) (n : ℕ) (y : List ℕ) → 0 < n → 0 < count y (cells (block c n)) → (k : ℕ) × (k < n) × (y ≡ cell_at c k)
cells-place [] n [] hn h = (0, hn, refl)
cells-place [] n (x ∷ xs) hn h = absurd (omega arith)
cells-place (s ∷ v) n [] hn h = absurd (omega (arith, nil_row (run s n) v))
cells-place (s ∷ v) n (x ∷ xs) hn h =
    let p = mul_pos (sum (run s n) (same x)) (same_list xs v) (rw (count-row x xs (run s n) v) at h) in
    let q = all_counted (λ k. (s ≤ k) × (k < s + n)) (run s n) x (run-all n s s (s + n) (omega arith) (omega arith)) p.0 in
    (x - s, omega arith, ap₂ (λ a b. a ∷ b) (omega arith) (same_list_pos xs v p.1))

-- ---- the cells of all blocks

cover_sum : (axs : List CutAxis) (y : List ℕ) → Wide axs → sum (counters axs) (λ c. count y (cells (block_at axs c))) ≡ in_range axs y
cover_sum axs y hw = sym (sum_over (blocks_of axs) cells (same_list y) ∙ sum-map (counters axs) (block_at axs) (λ b. count y (cells b))) ∙ cover axs y hw

cell_inj : (axs : List CutAxis) (c : List ℕ) (k j : ℕ) → k < length_at axs c → j < length_at axs c → cell_at c k ≡ cell_at c j → k ≡ j
cell_inj [] [] k j hk hj e = omega arith
cell_inj (ax e w ∷ axs) [] k j hk hj q = omega arith
cell_inj axs (s ∷ v) k j hk hj q = let z : s + k ≡ s + j = cc in omega arith

-- ---- the walk's places

-- step m hands out the block at c, k is below its length, and y is the plan index of its cell k
pub record MeetsPlan (axs : List CutAxis) (m k : ℕ) (y : List ℕ) : Type 0 where
  pub c : List ℕ
  pub state : state_after axs m ≡ Some c
  pub below : k < length_at axs c
  pub index : y ≡ cell_at c k

length-within : (axs : List CutAxis) (c : List ℕ) → Wide axs → Inside axs c → 0 < length_at axs c
length-within [] c hw i = omega arith
length-within (ax e w ∷ axs) [] hw i = absurd i
length-within (ax e w ∷ axs) (s ∷ v) hw i = omega (arith, hw.0, i.0)

-- every block has length 1 or more
pub length_pos : (axs : List CutAxis) (m : ℕ) (c : List ℕ) → Wide axs → state_after axs m ≡ Some c → 0 < length_at axs c
length_pos axs m c hw e = length-within axs c hw ((reach axs c hw).0 (m, e)).0

module _ (axs : List CutAxis) (hw : Wide axs) where
  -- how often y is a cell of the block at c
  hits : List ℕ → List ℕ → ℕ
  hits y c = count y (cells (block_at axs c))

  place_hits : (m k : ℕ) (y : List ℕ) (p : MeetsPlan axs m k y) → 0 < hits y p.c
  unfolding hits
  place_hits m k y p = rw p.index (cells_have p.c (length_at axs p.c) k p.below)

  pub meets_inside : (m k : ℕ) (y : List ℕ) → MeetsPlan axs m k y → Inside axs y
  unfolding hits
  meets_inside m k y p =
      one_inside axs y
      (rw (cover_sum axs y hw) at (pos_sum (hits y) (counters axs) m p.c (sym (state-nth axs hw m) ∙ p.state) (place_hits m k y p)))

  pub meets-all : (y : List ℕ) → Inside axs y → (m : ℕ) × (k : ℕ) × MeetsPlan axs m k y
  unfolding hits
  meets-all y i =
      let s : 0 < sum (counters axs) (hits y) = omega (arith, cover_sum axs y hw, inside_one axs y i) in
      let r = sum_pos (hits y) (counters axs) s in
      let st : state_after axs r.0 ≡ Some r.1 = state-nth axs hw r.0 ∙ r.2 in
      let q = cells-place r.1 (length_at axs r.1) y (length_pos axs r.0 r.1 hw st) r.3 in
      (r.0, q.0, record { c = r.1; state = st; below = q.1; index = q.2 })

  apart : (m k i j : ℕ) (y : List ℕ) → MeetsPlan axs m k y → MeetsPlan axs i j y → m < i → ⊥
  unfolding hits
  apart m k i j y p q h =
      omega (
        arith,
        in_range-one axs y,
        cover_sum axs y hw,
        sum_twice (hits y) (counters axs) m i p.c q.c (sym (state-nth axs hw m) ∙ p.state) (sym (state-nth axs hw i) ∙ q.state) h
            (place_hits m k y p) (place_hits i j y q),
      )

  pub meets_once : (m k i j : ℕ) (y : List ℕ) → MeetsPlan axs m k y → MeetsPlan axs i j y → (m ≡ i) × (k ≡ j)
  meets_once m k i j y p q = (mi, cell_inj axs p.c k j p.below (rw (← cs) at q.below) (sym p.index ∙ q.index ∙ ap (λ c. cell_at c j) (sym cs)))
    where
      go : (a b : Bool) → ltb m i ≡ a → ltb i m ≡ b → m ≡ i
      go true b ha hb = absurd (apart m k i j y p q (ltb-true m i ha))
      go false true ha hb = absurd (apart i j m k y q p (ltb-true i m hb))
      go false false ha hb = omega (arith, ltb-false m i ha, ltb-false i m hb)

      mi : m ≡ i
      mi = go (ltb m i) (ltb i m) refl refl

      cs : p.c ≡ q.c
      cs = let e : state_after axs m ≡ state_after axs i = ap (state_after axs) mi in let f : Some p.c ≡ Some q.c = sym p.state ∙ e ∙ q.state in cc

  -- the walk has ended exactly when every index was met before
  pub ended_iff : (m : ℕ) → (state_after axs m ≡ None) ↔ ((y : List ℕ) → Inside axs y → (i : ℕ) × (k : ℕ) × (i < m) × MeetsPlan axs i k y)
  ended_iff m = (to, λ h. from h (state_after axs m) refl)
    where
      to : state_after axs m ≡ None → (y : List ℕ) → Inside axs y → (i : ℕ) × (k : ℕ) × (i < m) × MeetsPlan axs i k y
      to e y i =
          let r = meets-all y i in
          (r.0, r.1, nth-before (counters axs) m r.0 r.2.c (sym (state-nth axs hw m) ∙ e) (sym (state-nth axs hw r.0) ∙ r.2.state), r.2)

      from : ((y : List ℕ) → Inside axs y → (i : ℕ) × (k : ℕ) × (i < m) × MeetsPlan axs i k y) → (s : Option (List ℕ)) → state_after axs m ≡ s → s ≡ None
      from h None e = refl
      from h (Some c) e =
          let p : MeetsPlan axs m 0 (cell_at c 0) = record { c = c; state = e; below = length_pos axs m c hw e; index = refl } in
          let r = h (cell_at c 0) (meets_inside m 0 (cell_at c 0) p) in
          let o = meets_once m 0 r.0 r.1 (cell_at c 0) p r.3 in
          absurd (omega arith)
