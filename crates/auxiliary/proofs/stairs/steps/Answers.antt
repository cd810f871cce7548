-- `auxiliary::stairs::steps` meets its contract. The invariant: the steps up to stride i - 1 are counted. Assumes nothing.
use mathlib.Core.Path.{◌≡◌, sym, ◌∙◌, ap, ap₂}
use Prim.Native.Nat.{ℕ, ◌+◌, ◌-◌}
use native.Mathlib.Omega.{arith}
use mir.Syntax.{w64}
use mir.Val.{SFits}
use lib.IntN.{ℤ, pos, nat_abs}
use lib.ListN.{length, get_or}
use Rattle.laws.specs.Base.Bits.{read_back}
use Rattle.std.proofs.Common.{rules}
use Rattle.auxiliary.specs.Stairs.{step_of, steps_to}
use Rattle.auxiliary.proofs.Stepping.{steps_none, steps_next, steps_le}
use Rattle.auxiliary.proofs.stairs.steps.Goals as goal

pub loop-i-init : goal.loop-i-init
loop-i-init c = (omega arith, sym (steps_none c.args.falling c.args.row.strides.now))

pub overflow_add-count : goal.overflow_add-count
overflow_add-count c =
    let a = c.args in
    omega (arith, steps_le a.falling a.row.strides.now (c.loop-i.i - 1))

pub loop-i-preserved : goal.loop-i-preserved
loop-i-preserved c =
    let a = c.args in
    let ss = a.row.strides.now in
    let one = get_or ss (c.loop-i.i - 1) (pos 0) in
    let next = get_or ss c.loop-i.i (pos 0) in
    let fits : SFits w64 one = search rules in
    let next_fits : SFits w64 next = search rules in (
      omega arith,
      ap₂ (λ (x y : ℕ). x + y) c.loop-i.invariant.1 (c.step-count.ensures.0 ∙ ap₂ (λ (x y : ℤ). step_of a.falling (nat_abs x) (nat_abs y)) (read_back one fits.sfits) (read_back next next_fits.sfits))
          ∙ sym (steps_next a.falling ss c.loop-i.i c.loop-i.auto.i),
    )

pub returns : goal.returns
returns c =
    let a = c.args in
    let e : c.loop-i.i - 1 ≡ length a.row.strides.now - 1 = omega arith in
    (c.loop-i.invariant.1 ∙ ap (steps_to a.falling a.row.strides.now) e, omega (arith, steps_le a.falling a.row.strides.now (c.loop-i.i - 1)))
