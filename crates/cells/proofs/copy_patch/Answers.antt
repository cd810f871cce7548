-- `cells::copy_patch` meets its contract. Assumes nothing.
use native.Mathlib.Omega.{arith}
use Prim.Native.Nat.{◌^◌, ◌<◌}
use Rattle.cells.proofs.Lying.{lies_both, no_cell, no_run}
use Rattle.cells.proofs.Steps.{steps_up, steps_down}
use borrow.Author.Rules.{rules}
use Rattle.cells.proofs.copy_patch.Goals as goal
use Rattle.cells.proofs.copy_patch.Goals.{then-patch-eq0-via-then-patch-eq0, then-patch-eq0-via-else-patch-eq0+then-patch-eq0-2}

-- without a cell or without a run there is nothing to copy
pub returns-then-patch-eq0 : goal.returns-then-patch-eq0
returns-then-patch-eq0 c =
    let a = c.args in
    elim c.then-patch-eq0.branch [
      | then-patch-eq0-via-then-patch-eq0 w ↦ no_cell a.patch.width a.patch.n0 a.patch.n1 a.patch.to a.patch.from a.destination.now a.source.now w.if-patch-eq0.true
      | then-patch-eq0-via-else-patch-eq0+then-patch-eq0-2 w ↦ no_run a.patch.width a.patch.n0 a.patch.n1 a.patch.to a.patch.from a.destination.now a.source.now w.if-patch-eq0-2.true
    ]

pub copy_packed-requires : goal.copy_packed-requires
copy_packed-requires c =
    let a = c.args in
    let l = c.well_formed.0.1 in
    let m = c.well_formed.1.0.1 in
    let w : a.patch.width < 2 ^ 63 = omega (arith, a.patch.narrow.1) in
    let e = c.both.ensures c.if-both.true in record { packed = record { cells = omega arith; runs = omega arith; to = steps_up (search rules) w e.0; from = steps_up (search rules) w e.1 }; reach = lies_both a.patch a.destination.now a.source.now c.requires.lies (omega (arith, l)) (omega (arith, m)) }

pub copy_down-requires : goal.copy_down-requires
copy_down-requires c =
    let a = c.args in
    let w : a.patch.width < 2 ^ 63 = omega (arith, a.patch.narrow.1) in
    let e = c.both-2.ensures c.if-both-2.true in record { packed = record { cells = omega arith; runs = omega arith; to = steps_down (search rules) w e.0; from = steps_down (search rules) w e.1 }; lies = c.requires.lies; apart = c.requires.apart }

pub copy_by_width-requires : goal.copy_by_width-requires
copy_by_width-requires c =
    let a = c.args in
    let l = c.well_formed.0.1 in
    let m = c.well_formed.1.0.1 in
    record { reach = lies_both a.patch a.destination.now a.source.now c.requires.lies (omega (arith, l)) (omega (arith, m)); apart = c.requires.apart }
