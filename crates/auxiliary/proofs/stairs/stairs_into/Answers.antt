-- `auxiliary::stairs::stairs_into` meets its contract. Assumes nothing.
use mathlib.Core.Path.{◌≡◌, ◌∙◌}
use Prim.Native.Nat.{◌+◌, ◌-◌}
use native.Mathlib.Omega.{arith}
use lib.Dec.{eqb}
use lib.ListN.{length}
use Rattle.auxiliary.specs.Stairs.{steps_to}
use Rattle.auxiliary.proofs.Stepping.{stairs_are}
use Rattle.auxiliary.proofs.stairs.stairs_into.Goals as goal

pub returns-then-steps-row : goal.returns-then-steps-row
returns-then-steps-row c =
    let ss = c.args.row.strides.now in
    let falling = eqb c.contributes-falling.result 1 in
    let e : steps_to (eqb c.contributes-falling.result 1) ss (length ss - 1) + 1 ≡ length ss = omega (arith, c.steps.ensures.0, c.if-steps-row.true) in
    c.climb_into.ensures ∙ stairs_are falling ss e
