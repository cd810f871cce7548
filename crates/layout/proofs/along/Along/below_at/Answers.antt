-- `layout::along::Along::below_at` meets its contract. Assumes nothing.
use Rattle.layout.proofs.Signs.{back_le, ahead_le, back_is, ahead_is}
use lib.IntN.{nat_abs}
use mir.Facts.{to_z-of_z}
use native.Mathlib.Omega.{arith}
use mathlib.Core.Path.{ap, ◌∙◌}
use Rattle.layout.proofs.along.Along.below_at.Goals as goal
use mir.Syntax.{w64}
use mir.Val.{SFits}
use Rattle.std.proofs.Common.{rules}

pub overflow_mul-result : goal.overflow_mul-result
overflow_mul-result c =
    let f : SFits w64 c.args.self.stride = search rules in
    record { fits = omega (arith, back_le _ _ _ f c.requires _ (c.unsigned_abs-size.ensures.value ∙ ap nat_abs (to_z-of_z {w = w64} f)), c.args.self.near) }

pub returns-then-self-lt0 : goal.returns-then-self-lt0
returns-then-self-lt0 c =
    let f : SFits w64 c.args.self.stride = search rules in
    back_is _ _ _ f c.requires _ (c.unsigned_abs-size.ensures.value ∙ ap nat_abs (to_z-of_z {w = w64} f)) c.if-self-lt0.true

pub overflow_mul-result-2 : goal.overflow_mul-result-2
overflow_mul-result-2 c =
    let f : SFits w64 c.args.self.stride = search rules in
    record { fits = omega (arith, ahead_le _ _ _ f c.requires _ (c.unsigned_abs-size.ensures.value ∙ ap nat_abs (to_z-of_z {w = w64} f)), c.args.self.near) }

pub returns : goal.returns
returns c =
    let f : SFits w64 c.args.self.stride = search rules in
    ahead_is _ _ _ f c.requires _ (c.unsigned_abs-size.ensures.value ∙ ap nat_abs (to_z-of_z {w = w64} f)) c.if-self-lt0.false
