-- `window::window_into` meets its contract. Assumes nothing.
use native.Mathlib.Omega.{arith}
use Rattle.window.proofs.Shifting.{taken_counts, taken_spread}
use Rattle.window.proofs.window_into.Goals as goal

pub lay_into-requires : goal.lay_into-requires
lay_into-requires c =
    let a = c.args in
    (omega arith, (taken_counts a.layout.extents.now a.layout.operands a.layout.strides.now a.picks.firsts.now a.picks.counts.now a.picks.steps.now c.requires.window_taken, c.requires.zeros.extents))

pub strides_into-requires : goal.strides_into-requires
strides_into-requires c = record { held = c.requires.window_taken.held; table_value = c.requires.zeros.strides }

pub shifts_into-requires : goal.shifts_into-requires
shifts_into-requires c =
    let a = c.args in record { near = taken_spread a.layout.extents.now a.layout.operands a.layout.strides.now a.picks.firsts.now a.picks.counts.now a.picks.steps.now c.requires.window_taken; shifts_value = c.requires.zeros.shifts }

pub returns : goal.returns
returns c =
    record {
      extents = c.lay_into.ensures;
      strides = c.strides_into.ensures;
      shifts = c.shifts_into.ensures;
    }
