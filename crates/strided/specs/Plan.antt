-- "The plan": the whole plan of a layout for a purpose, and what planning answers.
-- Assumes nothing.
use Rattle.std.specs.Prelude.{Bool, cond, ◌&&◌, ◌||◌, List, ℕ, suc, ◌+◌, ◌-◌, ◌*◌, length, get_or, ltb, leb, eqb, ℤ, pos, nat_abs, Result}
use Rattle.strided.specs.Base.{padded, over, run, every}
use Rattle.strided.specs.Layout.{Axis, extents, row, total}
use Rattle.strided.specs.Refusals.{planning_refused, served_unless}
use Rattle.strided.specs.Fuse.{plan_axes}
use Rattle.strided.specs.Region.{byte_table, region}
use Rattle.strided.specs.Costs.{costs}
use Rattle.strided.specs.Cut.{plan_ranks, cutting}
use Rattle.strided.specs.Decline.{declined}
use Rattle.strided.specs.Fit.{fitted}
use Rattle.strided.specs.declared.Machine.{Machine}
use Rattle.strided.specs.declared.Purpose.{Purpose}
use Rattle.strided.specs.declared.Purpose.TheVariants.{Pointwise, PointwiseInto, Fold}
use Rattle.strided.specs.declared.Refusal.{Refusal}
use Rattle.strided.specs.declared.Plan.{Plan}

-- the plan's strides: operand k's from place k * 64 on
abbrev pub stride_table : List Axis → ℕ → List ℤ
stride_table axs operands = padded 512 (pos 0) (over (run 0 operands) (λ k. padded 64 (pos 0) (row k axs)))

-- "every operand has size above 0, a nonzero first stride and strictly growing stride sizes"
unfoldable pub grows : List ℕ → List ℤ → ℕ → ℕ → Bool
grows sizes strides rank k =
    ltb 0 (get_or sizes k 0)
    && (ltb 0 (nat_abs (get_or strides (k * 64) (pos 0)))
    && every (λ i. ltb (nat_abs (get_or strides (k * 64 + i) (pos 0))) (nat_abs (get_or strides (k * 64 + suc i) (pos 0)))) 0 (rank - 1))

-- "P with a chosen operand and exactly two operands": fit. A fold keeps the model's blocks, which order its sum
abbrev pub fitted_for : Machine → Purpose → List ℕ → List ℕ → List ℤ → ℕ → List ℕ → List ℕ
fitted_for mc Pointwise bytes sizes strides rank b = b
fitted_for mc (Fold c) bytes sizes strides rank b = b
fitted_for mc (PointwiseInto c) bytes sizes strides rank b =
    let fit = fitted mc bytes sizes rank (λ i. nat_abs (get_or strides (c * 64 + i) (pos 0))) b in
    cond (eqb (length sizes) 2) fit b

-- the blocks of a plan whose total is above 1,024; es and strides are the plan's arrays. "if the cutting rule was run (even if it shortened
-- nothing) and tiles were not declined, fit"
unfoldable pub cut_blocks : Machine → List ℕ → List ℕ → List ℤ → ℕ → Purpose → List ℕ
cut_blocks mc sizes es strides rank u =
    let operands : ℕ = length sizes in
    let bytes : List ℕ = byte_table sizes strides in
    let ruled : List ℕ = cutting mc bytes operands (costs strides operands rank) (plan_ranks sizes strides rank) 0 rank es in
    let kept : List ℕ = fitted_for mc u bytes sizes strides rank ruled in
    let tiled : List ℕ = cond (declined mc bytes sizes operands es rank ruled) es kept in
    -- "No cut if rank is 0, the region is at most 32,768, or every operand .."
    cond (eqb rank 0 || (leb (region mc bytes operands es 0 rank) mc.cache || every (grows sizes strides rank) 0 operands)) es tiled

-- "Total at most 1,024: .. blocks are the full extents. Otherwise .. cut."
unfoldable pub plan_from : Machine → List ℕ → List ℕ → List Axis → Purpose → Plan
plan_from mc es sizes axs u =
    record {
      rank = length axs;
      operands = length sizes;
      extents = padded 64 0 (extents axs);
      blocks =
          let cut : List ℕ = cut_blocks mc sizes (padded 64 0 (extents axs)) (stride_table axs (length sizes)) (length axs) u in
          cond (leb (total es) 1024) (padded 64 0 (extents axs)) cut;
      strides = stride_table axs (length sizes);
    }

-- the plan of a layout, were it not refused
abbrev pub the_plan : Machine → List ℕ → List ℕ → List ℤ → Purpose → Plan
the_plan mc es sizes ss u = plan_from mc es sizes (plan_axes es (length sizes) ss u) u

-- PLANNING: rows 1 to 4, 24, 5, 6, else the plan: "layout, purpose and record alone fix the plan"
unfoldable pub planned : Machine → List ℕ → List ℕ → List ℤ → Purpose → Result Plan Refusal
planned mc es sizes ss u = served_unless (planning_refused mc es sizes ss u) (the_plan mc es sizes ss u)
