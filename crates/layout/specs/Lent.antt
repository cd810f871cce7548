-- A plan that is lent, let through by rows 1 and 2: what the lending answers, and what is then known of the plan. Assumes nothing.
use Rattle.std.specs.Prelude.{◌≡◌, ◌≤◌, ◌<◌, length, Result}
use Rattle.strided.specs.Refusals.{refused_by, served_unless}
use Rattle.strided.specs.Step.{step_rows}
use Rattle.strided.specs.declared.Plan.{Plan}
use Rattle.strided.specs.declared.Refusal.{Refusal}

abbrev pub lent : Plan → Result Plan Refusal
lent p = served_unless (refused_by (step_rows p)) p

-- rank and operands are within their limits, and the arrays have their whole lengths
pub record Whole (p : Plan) : Type 0 where
  pub axes : p.rank ≤ 64
  pub one : 0 < p.operands
  pub few : p.operands ≤ 8
  pub extents-all : length p.extents ≡ 64
  pub blocks_all : length p.blocks ≡ 64
  pub strides_all : length p.strides ≡ 512
