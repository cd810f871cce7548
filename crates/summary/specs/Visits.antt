-- "one operand of f64 cells (size 8) in a lent slice, in the order of its F plan with operand 0 chosen": the plan, and the cells that its walk
-- meets, in order.
-- Assumes nothing.
use Rattle.std.specs.Prelude.{List, [], ◌∷◌, map, ℕ, ℤ, nat_abs, ◌+ℤ◌, Float, get_or}
use Rattle.std.specs.Float.{nan}
use Rattle.strided.specs.Base.{over, run}
use Rattle.strided.specs.Layout.{dot}
use Rattle.strided.specs.Walk.{Block, block, cell_at}
use Rattle.strided.specs.Begin.{plan_row}
use Rattle.strided.specs.Plan.{the_plan}
use Rattle.strided.specs.Text.{plan_walk}
use Rattle.strided.specs.declared.Machine.{Machine}
use Rattle.strided.specs.declared.Purpose.{Purpose}
use Rattle.strided.specs.declared.Purpose.TheVariants.{Fold}
use Rattle.strided.specs.declared.Plan.{Plan}

-- "operand count and size are no input": one operand of size 8, and it is the chosen one
abbrev pub cell_sizes : List ℕ
cell_sizes = 8 ∷ []

abbrev pub ordering : Purpose
ordering = Fold 0

-- THE PLAN that orders the cells
abbrev pub summary_plan : Machine → List ℕ → List ℤ → Plan
summary_plan mc es ss = the_plan mc es cell_sizes ss ordering

-- the plan indices of a block's cells, in order: "cell k of the block has k more on axis 0"
abbrev pub indices_in : Block → List (List ℕ)
indices_in (block c len) = map (cell_at c) (run 0 len)

-- and of a plan's cells: block by block in the walk's order, cell by cell in a block
abbrev pub indices_of : Plan → List (List ℕ)
indices_of p = over (plan_walk p) indices_in

-- the offset of a cell from the start z
abbrev pub offset_at : Plan → ℤ → List ℕ → ℤ
offset_at p z y = z +ℤ dot y (plan_row p 0)

-- THE VISITS: the offset of each cell that the walk meets, in order
abbrev pub visits_of : Plan → ℤ → List ℤ
visits_of p z = map (offset_at p z) (indices_of p)

unfoldable pub visits : Machine → List ℕ → List ℤ → ℤ → List ℤ
visits mc es ss z = visits_of (summary_plan mc es ss) z

-- the cell at an offset of the slice
abbrev pub cell_of : List Float → ℤ → Float
cell_of cells o = get_or cells (nat_abs o) nan
