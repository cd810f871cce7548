-- THE ORDER of the cells is fixed by layout and record alone: neither the start nor what the cells hold has a part in it. Two layouts, two
-- records, or two ways to name the axes that give one order of visits give one summary. And of a summary that is served: its count is the
-- layout's total, each index of the layout is met exactly once, the sum of whole numbers is exact, the extremes are cells.
-- Assumes nothing.
use Rattle.std.specs.Prelude.{◌≡◌, refl, true, false, List, map, ℕ, ◌^◌, ◌≤◌, ◌<◌, ℤ, pos, ◌+ℤ◌, Float, length, Option, None, Some, Ok}
use Rattle.std.proofs.Common.{sym, ap₂, ◌∙◌, subst, arith}
use Rattle.std.proofs.Math.Path.{ap}
use Rattle.std.proofs.lemmas.Simd.{map-map}
use Rattle.std.proofs.Math.IntN.{+ℤ_idl}
use Rattle.std.specs.Float.{nan}
use Rattle.std.specs.Float.Ieee.{is_nan}
use Rattle.std.proofs.Math.ListN.{length-map}
use Rattle.strided.specs.Layout.{Within, dot, total}
use Rattle.strided.specs.Refusals.{planning_refused, served_unless}
use Rattle.strided.specs.Index.{index_in_plan}
use Rattle.strided.specs.Begin.{plan_extents, plan_row}
use Rattle.strided.specs.declared.Machine.{Machine}
use Rattle.strided.specs.declared.Refusal.{Refusal}
use Rattle.laws.specs.Base.Counting.{count}
use Rattle.laws.specs.Fuse.Maps.{plan_total, plan_in, orig_plan}
use Rattle.laws.specs.Refusals.Rows.{served_none, served_is}
use Rattle.laws.specs.Text.Totals.{planned-extents}
use Rattle.summary.specs.declared.cell.Summary.{Summary}
use Rattle.summary.specs.Sums.{summary_of}
use Rattle.summary.specs.Visits.{cell_sizes, ordering, summary_plan, indices_of, offset_at, visits_of, visits, cell_of}
use Rattle.summary.specs.Rows.{summary_refused, cells_met, summarized}
use Rattle.summary.specs.Indices.{indices_once, visits-many}
use Rattle.summary.proofs.Served.{planning_rows_lem, same_offset}
use Rattle.summary.proofs.Counts.{nans_in, count-all, nans_all, sum_lost}
use Rattle.summary.specs.Whole.{Whole, Wholes, sizes_of, exact_sum}
use Rattle.summary.proofs.Exact.{sum-whole}
use Rattle.summary.specs.Extremes.{In, Bounded, NumberIn, within_extremes, extremes_are_cells}

-- ---- the order

-- ANOTHER START moves each visit, and changes no place in the order
pub start_moves : (mc : Machine) (es : List ℕ) (ss : List ℤ) (z : ℤ) → visits mc es ss z ≡ map (λ (o : ℤ). z +ℤ o) (visits mc es ss (pos 0))
unfolding visits
start_moves mc es ss z =
    let p = summary_plan mc es ss in
    sym
    (map-map (λ (o : ℤ). z +ℤ o) (offset_at p (pos 0)) (indices_of p)
    ∙ ap (λ (f : List ℕ → ℤ). map f (indices_of p)) (λ i y. z +ℤ +ℤ_idl (dot y (plan_row p 0)) i))

-- ONE ORDER OF VISITS, ONE SUMMARY: two records, or a permutation of the axes' names, or any other two layouts
pub same_order : (mc mc' : Machine) (es es' : List ℕ) (ss ss' : List ℤ) (z z' : ℤ) (cells : List Float) → visits mc es ss z ≡ visits mc' es' ss' z'
    → summary_refused mc es ss z (length cells) ≡ None → summary_refused mc' es' ss' z' (length cells) ≡ None
    → summarized mc es ss z cells ≡ summarized mc' es' ss' z' cells
unfolding summarized
same_order mc mc' es es' ss ss' z z' cells e h h' =
    ap₂ (λ (o : Option Refusal) (l : List ℤ). served_unless o (summary_of (map (cell_of cells) l))) (h ∙ sym h') e

-- ---- a summary that is handed out

planning_passes : (mc : Machine) (es : List ℕ) (ss : List ℤ) (z : ℤ) (n : ℕ) → summary_refused mc es ss z n ≡ None → planning_refused mc es cell_sizes ss ordering ≡ None
planning_passes mc es ss z n h = go (planning_refused mc es cell_sizes ss ordering) refl
  where
    go : (o : Option Refusal) → planning_refused mc es cell_sizes ss ordering ≡ o → planning_refused mc es cell_sizes ss ordering ≡ None
    go None e = e
    go (Some r) e = let q = planning_rows_lem mc es ss z n r e in let y : ◌≡◌ {A = ℕ} 0 1 = cc (q, h) in absurd (omega arith)

module _ (mc : Machine) (es : List ℕ) (ss : List ℤ) (z : ℤ) (cells : List Float) {given : Summary} (served : summarized mc es ss z cells ≡ Ok given) where
  not-refused : summary_refused mc es ss z (length cells) ≡ None
  unfolding summarized
  not-refused = served_none (summary_refused mc es ss z (length cells)) (summary_of (cells_met mc es ss z cells)) served

  passed : planning_refused mc es cell_sizes ss ordering ≡ None
  passed = planning_passes mc es ss z (length cells) not-refused

  -- it is that of the cells that are met
  pub summary_is : given ≡ summary_of (cells_met mc es ss z cells)
  unfolding summarized
  summary_is = served_is (summary_refused mc es ss z (length cells)) (summary_of (cells_met mc es ss z cells)) served

  -- as many as the layout's total
  met-many : length (cells_met mc es ss z cells) ≡ total es
  unfolding visits
  met-many =
      length-map (visits_of (summary_plan mc es ss) z) (cell_of cells) ∙ visits-many (summary_plan mc es ss) z
      ∙ ap total (planned-extents mc es cell_sizes ss ordering passed) ∙ plan_total es 1 ss ordering

  -- THE COUNT is the layout's total, a cell that two indices share counted at each
  pub count-total : given.count ≡ total es
  count-total = ap (λ (s : Summary). s.count) summary_is ∙ count-all (cells_met mc es ss z cells) ∙ met-many

  -- of which so many are not a number; with one the sum is none
  pub nans_counted : given.nans ≡ nans_in (cells_met mc es ss z cells)
  nans_counted = ap (λ (s : Summary). s.nans) summary_is ∙ nans_all (cells_met mc es ss z cells)

  pub nan_sum : 0 < given.nans → given.sum ≡ nan
  nan_sum h =
      ap (λ (s : Summary). s.sum) summary_is ∙ sum_lost (cells_met mc es ss z cells) (subst (λ (n : ℕ). 0 < n) nans_counted h)

  -- EACH INDEX OF THE LAYOUT is met exactly once, at its own offset
  pub index_once : (x : List ℕ) → Within es x
      → (count (index_in_plan es 1 ss ordering x) (indices_of (summary_plan mc es ss)) ≡ 1) × (offset_at (summary_plan mc es ss) z (index_in_plan es 1 ss ordering x) ≡ z +ℤ dot x ss)
  index_once x w =
      let y = index_in_plan es 1 ss ordering x in
      let v : Within (plan_extents (summary_plan mc es ss)) y = subst (λ (l : List ℕ). Within l y) (sym (planned-extents mc es cell_sizes ss ordering passed)) (plan_in es 1 ss ordering x w) in
      let d = (same_offset mc es ss passed y v).2 in
      (indices_once (summary_plan mc es ss) y v, ap (λ (o : ℤ). z +ℤ o) (d ∙ ap (λ (i : List ℕ). dot i ss) (orig_plan es 1 ss ordering x w)))

  -- EXACT: "If all cells are whole numbers whose sizes, so counted, total at most 2^53, the sum equals the exact one"
  pub sum_exact : (zs : List ℤ) → Wholes (cells_met mc es ss z cells) zs → sizes_of zs ≤ 2 ^ 53 → Whole given.sum (exact_sum zs)
  sum_exact zs w h = subst (λ (s : Summary). Whole s.sum (exact_sum zs)) (sym summary_is) (sum-whole (cells_met mc es ss z cells) zs w h)

  -- THE EXTREMES: a cell that is a number lies within them, and then they exist
  pub cell_bounded : (y : Float) → In y (cells_met mc es ss z cells) → is_nan y ≡ false → Bounded y given
  cell_bounded y i h = subst (Bounded y) (sym summary_is) (within_extremes (cells_met mc es ss z cells) y i h)

  -- and where they exist they are such cells
  pub extremes_cells : given.extremes ≡ true
      → NumberIn (cells_met mc es ss z cells) given.least × NumberIn (cells_met mc es ss z cells) given.greatest
  extremes_cells h =
      let e = extremes_are_cells (cells_met mc es ss z cells) (sym (ap (λ (s : Summary). s.extremes) summary_is) ∙ h) in
      subst (λ (s : Summary). NumberIn (cells_met mc es ss z cells) s.least × NumberIn (cells_met mc es ss z cells) s.greatest) (sym summary_is) e
