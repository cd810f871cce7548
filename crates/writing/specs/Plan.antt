-- What the functions on a whole plan ask and answer, and the parts of its output as the plan's arrays have them.
-- Assumes nothing.
use Rattle.std.specs.Prelude.{◌≡◌, cond, List, [], ◌∷◌, ◌++◌, map, ℕ, suc, ltb, length, get_or, drop, Option, Some, None}
use Rattle.strided.specs.Base.{run}
use Rattle.strided.specs.Begin.{begin_refused}
use Rattle.strided.specs.Refusals.{refused_by}
use Rattle.strided.specs.Text.{axis_line, block_line, block_lines, end_line, plan_walk, zero_starts, printed_plan, row14, Listing, listing_or}
use Rattle.strided.specs.declared.Plan.{Plan}
use Rattle.laws.specs.Walk.Placed.{Placed}
use Rattle.advance.specs.Blocks.{stride_on}
use Rattle.advance.specs.Sized.{Sized}

-- what is asked: a plan as a value has it, whose walk begins at the starts 0. So its axes and operands are within the limits, and every
-- number of its walk fits. Planning hands out such plans (crate laws, Text/Begins)
-- Kept: sized, which a lent plan's invariant says too. `walk_len` and `put_walk` read no field of the plan, and then a proof is not told it.
pub record Printable (p : Plan) : Type 0 where
  pub sized : Sized p
  pub begins : begin_refused p (zero_starts p) ≡ None

-- what is answered: a length, where it is at most the limit
abbrev pub measured : ℕ → ℕ → Option ℕ
measured n limit = cond (ltb limit n) None (Some n)

-- and what becomes of lent bytes where of all rows only 14 may apply
abbrev pub listed_in : Plan → List ℕ → Listing
listed_in p room = listing_or (refused_by (row14 (printed_plan p) (length room) ∷ [])) (printed_plan p) room

-- ---- the parts

-- an axis's line, out of the plan's arrays
abbrev pub axis_at : Plan → ℕ → List ℕ
axis_at p i = axis_line i (get_or p.extents i 0) (get_or p.blocks i 0) (map (stride_on i p.strides) (run 0 p.operands))

-- the B lines of blocks, numbered from n on
abbrev pub lines_from : ℕ → List Placed → List ℕ
lines_from n [] = []
lines_from n (b ∷ bs) = block_line n b.length b.offsets ++ lines_from (suc n) bs

-- the B lines from block n on, and the Z line
unfoldable pub rest_from : Plan → ℕ → List ℕ
rest_from p n = block_lines p n (drop n (plan_walk p)) ++ end_line (plan_walk p)
