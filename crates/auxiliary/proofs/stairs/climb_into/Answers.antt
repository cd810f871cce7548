-- `auxiliary::stairs::climb_into` meets its contract. The invariant: the first i places hold the ranks, the others 0. Assumes nothing.
use mathlib.Core.Path.{◌≡◌, ◌∙◌, ap}
use mathlib.Core.List.{map}
use Prim.Native.Nat.{ℕ, ◌<◌}
use native.Mathlib.Omega.{arith}
use lib.ListN.{length}
use Rattle.strided.specs.Base.{padded, run}
use Rattle.laws.specs.Base.Filling.{fill_next}
use Rattle.auxiliary.specs.Stairs.{stair_of}
use Rattle.auxiliary.proofs.stairs.climb_into.Goals as goal

pub loop-i-preserved : goal.loop-i-preserved
loop-i-preserved c =
    let a = c.args in
    let ss = a.row.strides.now in
    let h : c.loop-i.i < 64 = omega (arith, a.row.few, c.loop-i-test.true) in
    (omega (arith, c.loop-i-test.true), rw (c.loop-i.invariant.1, c.stair.ensures.0) (fill_next 64 0 (stair_of a.falling (length ss)) c.loop-i.i h))

pub returns : goal.returns
returns c =
    let a = c.args in
    let ss = a.row.strides.now in
    let e : c.loop-i.i ≡ length ss = omega (arith, c.loop-i.invariant.0, c.loop-i-test.false) in
    c.loop-i.invariant.1 ∙ ap (λ (n : ℕ). padded 64 0 (map (stair_of a.falling (length ss)) (run 0 n))) e
