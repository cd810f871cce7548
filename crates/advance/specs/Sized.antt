-- A plan as a value has it: its arrays have their whole lengths.
-- Assumes nothing.
use Rattle.std.specs.Prelude.{◌≡◌, length}
use Rattle.strided.specs.declared.Plan.{Plan}
use Rattle.layout.specs.Lent.{Whole}

pub record Sized (p : Plan) : Type 0 where
  pub extents-all : length p.extents ≡ 64
  pub blocks_all : length p.blocks ≡ 64
  pub strides_all : length p.strides ≡ 512

-- as a plan that is lent has it too
pub whole_sized : {p : Plan} → Whole p → Sized p
whole_sized w = record { extents-all = w.extents-all; blocks_all = w.blocks_all; strides_all = w.strides_all }
