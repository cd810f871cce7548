-- `cells::packed::copy_packed` meets its contract. Assumes nothing.
use mathlib.Core.Path.{◌≡◌}
use Prim.Native.Nat.{◌+◌, ◌*◌, ◌^◌, ◌≤◌, ◌<◌}
use native.Mathlib.Omega.{arith}
use lib.IntN.{pos}
use lib.ListN.{length}
use borrow.Author.Rules.{rules}
use Rattle.cells.proofs.Steps.{steps_up}
use Rattle.cells.proofs.Packing.{run-long, whole-to, whole-from, whole-copied}
use Rattle.cells.proofs.packed.copy_packed.Goals as goal
use Rattle.cells.proofs.packed.copy_packed.Goals.{Then-both}

pub overflow_mul-bytes : goal.overflow_mul-bytes
overflow_mul-bytes c = let a = c.args in omega (arith, run-long a.patch c.requires.packed c.requires.reach)

pub overflow_cast-bytes : goal.overflow_cast-bytes
overflow_cast-bytes c = let a = c.args in omega (arith, run-long a.patch c.requires.packed c.requires.reach, c.well_formed.0.1)

-- each run begins where the one before ends, and all of them lie in the buffers
follows : (c : Then-both) → let p = c.args.patch in (p.to.step1 ≡ pos (p.n0 * p.width)) × (p.from.step1 ≡ pos (p.n0 * p.width))
follows c =
    let p = c.args.patch in
    let w : p.n0 * p.width < 2 ^ 63 = omega (arith, run-long p c.requires.packed c.requires.reach, c.well_formed.0.1) in
    let e = c.both.ensures c.if-both.true in
    (steps_up (search rules) w e.0, steps_up (search rules) w e.1)

to-whole : (c : Then-both) → let p = c.args.patch in p.to.first + p.n0 * p.width * p.n1 ≤ length c.args.destination.now
to-whole c = whole-to c.args.patch c.requires.packed c.requires.reach (follows c)

from-whole : (c : Then-both) → let p = c.args.patch in p.from.first + p.n0 * p.width * p.n1 ≤ length c.args.source.now
from-whole c = whole-from c.args.patch c.requires.packed c.requires.reach (follows c)

pub overflow_mul-all : goal.overflow_mul-all
overflow_mul-all c = omega (arith, to-whole c, c.well_formed.0.1)

pub overflow_add-d : goal.overflow_add-d
overflow_add-d c = omega (arith, to-whole c, c.well_formed.0.1)

pub slice_bounds-move_bytes-end : goal.slice_bounds-move_bytes-end
slice_bounds-move_bytes-end c = omega (arith, to-whole c)

pub overflow_add-s : goal.overflow_add-s
overflow_add-s c = omega (arith, from-whole (goal.at.overflow_add-s c).Then-both, c.well_formed.1.0.1)

pub slice_bounds-move_bytes-end-then-both : goal.slice_bounds-move_bytes-end-then-both
slice_bounds-move_bytes-end-then-both c = omega (arith, from-whole (goal.at.slice_bounds-move_bytes-end-then-both c).Then-both)

pub returns-then-both : goal.returns-then-both
returns-then-both c =
    let r = c.requires in whole-copied c.args.patch r.packed r.reach (follows (goal.at.returns-then-both c).Then-both) c.move_bytes.ensures
