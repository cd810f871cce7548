-- THE INDEX MAPS OF AN ORDER: axes put into any order, fused and compressed. The total, the ranges, the two maps and the offsets, over
-- every permutation of the axes.
-- Assumes nothing.
use Rattle.std.specs.Prelude.{◌≡◌, refl, List, [], ◌∷◌, ℕ, zero, suc, ◌<◌, pos, length, get_or, replicate}
use Rattle.std.proofs.Common.{sym, ap, ◌∙◌, inl, inr}
use Rattle.std.proofs.lemmas.List.{length-replicate}
use Rattle.strided.specs.Fuse.{fused_axes}
use Rattle.strided.specs.Index.{unravel_index, plan_index, unravel_by, index_by}
use Rattle.strided.specs.Layout.{Within, NoZero, total, dot, Axis, extents, row, no_axis}
use Rattle.strided.specs.Order.{pick, place}
use Rattle.laws.specs.Base.Layouts.{length-extents, length-row, within-length, within-at, at-within, nozero_at}
use Rattle.laws.specs.Order.Permutation.{In, Permutes}
use Rattle.laws.specs.Order.Picked.{length-pick, length-place, pick-place, place-pick}
use Rattle.laws.specs.Order.Folds.{picked-total, picked-dot}
use Rattle.laws.specs.Fuse.Joined.{fused_total, unravel_range, plan_range, plan_unravel, unravel_plan, plan_dot}

-- ---- extents and strides of axes in another order

extent_at : (xs : List Axis) (a : ℕ) → (get_or xs a no_axis).extent ≡ get_or (extents xs) a 0
extent_at [] a = refl
extent_at (x ∷ xs) zero = refl
extent_at (x ∷ xs) (suc a) = extent_at xs a

stride_at : (k : ℕ) (xs : List Axis) (a : ℕ) → get_or (get_or xs a no_axis).strides k (pos 0) ≡ get_or (row k xs) a (pos 0)
stride_at k [] a = refl
stride_at k (x ∷ xs) zero = refl
stride_at k (x ∷ xs) (suc a) = stride_at k xs a

extents-pick : (xs : List Axis) (o : List ℕ) → extents (pick no_axis xs o) ≡ pick 0 (extents xs) o
extents-pick xs [] = refl
extents-pick xs (a ∷ o) = rw (extent_at xs a, extents-pick xs o)

row-pick : (k : ℕ) (xs : List Axis) (o : List ℕ) → row k (pick no_axis xs o) ≡ pick (pos 0) (row k xs) o
row-pick k xs [] = refl
row-pick k xs (a ∷ o) = rw (stride_at k xs a, row-pick k xs o)

-- ---- ranges in another order

pick-within : (es is o : List ℕ) → ((j : ℕ) → In j o → j < length es) → Within es is → Within (pick 0 es o) (pick 0 is o)
pick-within es is [] f r = tt
pick-within es is (a ∷ o) f r = (within-at es is a r (f a (inl refl)), pick-within es is o (λ j m. f j (inr m)) r)

within-pick : (es is o : List ℕ) (j : ℕ) → In j o → Within (pick 0 es o) (pick 0 is o) → get_or is j 0 < get_or es j 0
within-pick es is [] j m r = absurd m
within-pick es is (a ∷ o) j (inl e) r = rw e r.0
within-pick es is (a ∷ o) j (inr m) r = within-pick es is o j m r.1

pick_nozero : (es o : List ℕ) → ((j : ℕ) → In j o → j < length es) → NoZero es → NoZero (pick 0 es o)
pick_nozero es [] f p = tt
pick_nozero es (a ∷ o) f p = (nozero_at es a p (f a (inl refl)), pick_nozero es o (λ j m. f j (inr m)) p)

-- ---- the laws

module _ (o : List ℕ) (xs : List Axis) (p : Permutes (length xs) o) where
  abbrev ys : List Axis
  ys = pick no_axis xs o

  inside : (j : ℕ) → In j o → j < length (extents xs)
  inside j m = rw (length-extents xs) (p.below j m)

  pub order_total : total (extents xs) ≡ total (extents (fused_axes ys))
  order_total =
      sym (ap total (extents-pick xs o) ∙ picked-total (extents xs) o (rw (length-extents xs) p)) ∙ fused_total ys

  pub order_nozero : NoZero (extents xs) → NoZero (extents ys)
  order_nozero z = rw (extents-pick xs o) (pick_nozero (extents xs) o inside z)

  ordered : (is : List ℕ) → Within (extents xs) is → Within (extents ys) (pick 0 is o)
  ordered is r = rw (extents-pick xs o) (pick-within (extents xs) is o inside r)

  -- a plan index is in range
  pub index_range : (is : List ℕ) → Within (extents xs) is → Within (extents (fused_axes ys)) (index_by o xs is)
  index_range is r = plan_range ys (pick 0 is o) (ordered is r)

  -- the index told of a plan index is the one it was of
  pub unravel_index_lem : (is : List ℕ) → Within (extents xs) is → unravel_by o xs (index_by o xs is) ≡ is
  unravel_index_lem is r =
      ap (place (replicate (length xs) 0) o) (unravel_plan ys (pick 0 is o) (ordered is r))
      ∙ place-pick 0 (length xs) o p is (replicate (length xs) 0) (within-length (extents xs) is r ∙ length-extents xs) (length-replicate (length xs) 0)

  module _ (z : NoZero (extents xs)) (cs : List ℕ) (r : Within (extents (fused_axes ys)) cs) where
    long : length (unravel_by o xs cs) ≡ length xs
    long = length-place 0 (replicate (length xs) 0) o (unravel_index ys cs) ∙ length-replicate (length xs) 0

    -- what is told, before it is put in its places
    picked : pick 0 (unravel_by o xs cs) o ≡ unravel_index ys cs
    picked =
        pick-place 0 (length xs) o p (replicate (length xs) 0) (unravel_index ys cs) (length-replicate (length xs) 0)
        (within-length (extents ys) (unravel_index ys cs) (unravel_range ys cs (order_nozero z) r) ∙ length-extents ys ∙ length-pick no_axis xs o ∙ p.many)

    -- what is told is in range
    pub told_range : Within (extents xs) (unravel_by o xs cs)
    told_range =
        at-within (extents xs) (unravel_by o xs cs) (long ∙ sym (length-extents xs))
        (λ j h. within-pick (extents xs) (unravel_by o xs cs) o j (p.has j (rw (length-extents xs) at h))
        (rw (picked, ← (extents-pick xs o)) (unravel_range ys cs (order_nozero z) r)))

    -- the plan index of what is told is the one it was told from
    pub index_unravel : index_by o xs (unravel_by o xs cs) ≡ cs
    index_unravel = ap (plan_index ys) picked ∙ plan_unravel ys cs (order_nozero z) r

    -- offsets, at each operand
    pub told-dot : (k : ℕ) → dot cs (row k (fused_axes ys)) ≡ dot (unravel_by o xs cs) (row k xs)
    told-dot k =
        plan_dot k ys cs (order_nozero z) r
        ∙ ap (λ (l : List ℕ). dot l (row k ys)) (sym picked)
        ∙ ap (dot (pick 0 (unravel_by o xs cs) o)) (row-pick k xs o)
        ∙ picked-dot (unravel_by o xs cs) (row k xs) o (long ∙ sym (length-row k xs)) (rw long p)
