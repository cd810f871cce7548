-- THE Z FIGURES of the text: the lengths of a plan's blocks add up to the product of its extents, which is the layout's total where planning
-- made the plan; and the blocks are no more than that, so that both fit 64 bits where a walk begins.
-- Assumes nothing.
use Rattle.std.specs.Prelude.{◌≡◌, refl, List, [], ◌∷◌, ℕ, ◌+◌, ◌^◌, ◌≤◌, ◌<◌, ℤ, length, None}
use Rattle.std.proofs.Common.{sym, ap, ◌∙◌, arith, ltb-false}
use Rattle.std.proofs.lemmas.List.{length-map}
use Rattle.strided.specs.Layout.{extents, total, max_u}
use Rattle.strided.specs.Refusals.{planning_refused}
use Rattle.strided.specs.Fuse.{plan_axes}
use Rattle.strided.specs.Plan.{plan_from, the_plan}
use Rattle.strided.specs.Walk.{cut_axes, Block, counters, block_at}
use Rattle.strided.specs.Begin.{plan_extents, plan_blocks, begin_rows, begin_refused}
use Rattle.strided.specs.Step.{plan_cut_axes}
use Rattle.strided.specs.Text.{cells_in, cells_of, plan_walk}
use Rattle.strided.specs.declared.Purpose.{Purpose}
use Rattle.strided.specs.declared.Plan.{Plan}
use Rattle.strided.specs.declared.Machine.{Machine}
use Rattle.laws.specs.Base.Arrays.{take_counted}
use Rattle.laws.specs.Base.Layouts.{length-extents}
use Rattle.laws.specs.Base.Sums.{sum}
use Rattle.laws.specs.Fuse.Maps.{plan_total}
use Rattle.laws.specs.Plan.Bounds.{plan_few}
use Rattle.laws.specs.Refusals.Accepted.{accepted}
use Rattle.laws.specs.Base.Refusals.{NoneApplies, none_applies}
use Rattle.laws.specs.Refusals.Record.{planning_layout}
use Rattle.laws.specs.Refusals.Zeros.{row5-total}
use Rattle.laws.specs.Walk.Number.{blocks_most}
use Rattle.laws.specs.Walk.Placed.{placed_from, placed_walk}
use Rattle.laws.specs.Walk.Totals.{cell_count, cut-total, cells-total, blocks_total}

-- ---- the cells

-- "the sum of their lengths"
cells-sum : (bs : List Block) → cells_of bs ≡ sum bs cells_in
cells-sum [] = refl
cells-sum (b ∷ bs) = ap (λ n. cells_in b + n) (cells-sum bs)

pub walk-cells : (p : Plan) → cells_of (plan_walk p) ≡ total (plan_extents p)
walk-cells p = cells-sum (plan_walk p) ∙ cells-total (plan_extents p) (plan_blocks p)

-- the extents of a plan that planning hands out
pub planned-extents : (mc : Machine) (es sizes : List ℕ) (ss : List ℤ) (u : Purpose) → planning_refused mc es sizes ss u ≡ None
    → plan_extents (the_plan mc es sizes ss u) ≡ extents (plan_axes es (length sizes) ss u)
unfolding plan_from
planned-extents mc es sizes ss u h =
    let axs = plan_axes es (length sizes) ss u in
    take_counted 0 64 (length axs) (extents axs) (length-extents axs) (plan_few es sizes ss u (accepted es sizes ss u (planning_layout mc es sizes ss u h)))

-- Z: the cells that are printed are the layout's
pub planned-cells : (mc : Machine) (es sizes : List ℕ) (ss : List ℤ) (u : Purpose) → planning_refused mc es sizes ss u ≡ None
    → cells_of (plan_walk (the_plan mc es sizes ss u)) ≡ total es
planned-cells mc es sizes ss u h =
    walk-cells (the_plan mc es sizes ss u) ∙ ap total (planned-extents mc es sizes ss u h) ∙ plan_total es (length sizes) ss u

-- ---- the blocks

-- every block has a cell
pub walk_blocks : (p : Plan) → length (plan_walk p) ≤ total (plan_extents p)
walk_blocks p =
    let b = blocks_total (plan_extents p) (plan_blocks p) in
    let m = blocks_most (cut_axes (plan_extents p) (plan_blocks p)) in
    let t : cell_count (cut_axes (plan_extents p) (plan_blocks p)) ≡ total (plan_extents p) = cut-total (plan_extents p) _ in
    omega (arith, b, m, t)

-- ---- a walk that begins

module _ (p : Plan) (zs : List ℤ) (h : begin_refused p zs ≡ None) where
  pub begun_total : total (plan_extents p) < 2 ^ 64
  unfolding begin_refused NoneApplies
  begun_total =
      let a : NoneApplies (begin_rows p zs) = none_applies (begin_rows p zs) h in
      omega (arith, ltb-false max_u (total (plan_extents p)) (sym (row5-total (plan_extents p)) ∙ a.1.1.0))

  pub begun_blocks : length (plan_walk p) < 2 ^ 64
  begun_blocks = omega (arith, begun_total, walk_blocks p)

  pub begun_placed : length (placed_walk p zs) < 2 ^ 64
  begun_placed =
      let f = length-map (counters (plan_cut_axes p)) (placed_from p zs) in
      let g = length-map (counters (plan_cut_axes p)) (block_at (plan_cut_axes p)) in
      omega (arith, begun_blocks, f, g)
