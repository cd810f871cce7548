-- `mark::quick::reach_up_to` meets its contract. The invariant: the axes from i on are added. Assumes nothing.
use mathlib.Core.Path.{◌≡◌, ap, ◌∙◌}
use Prim.Native.Nat.{ℕ, ◌+◌, ◌-◌, ◌*◌}
use native.Mathlib.Omega.{arith}
use lib.IntN.{nat_abs}
use lib.ListN.{drop}
use mathlib.Core.Bool.{cond}
use lib.Dec.{leb}
use Rattle.laws.specs.Base.Layouts.{nozero_at}
use Rattle.laws.specs.Refusals.Zeros.{no_zero_of}
use Rattle.laws.specs.Mark.Sizes.{reach_up_to}
use Rattle.mark.proofs.Parts.{up_start, up_next, up_bound}
use Rattle.mark.proofs.quick.reach_up_to.Goals as goal
use Rattle.mark.proofs.quick.reach_up_to.Goals.{After-part_up_to-sum}

-- one axis more
more : (c : After-part_up_to-sum) → let o = c.args.operand in
    c.loop-i.sum + c.part_up_to-sum.result ≡ reach_up_to c.args.b (drop (c.loop-i.i - 1) o.extents.now) (drop (c.loop-i.i - 1) o.strides.now)
more c =
    let o = c.args.operand in
    let e = c.along.ensures in
    let part = c.part_up_to-sum.ensures ∙ (λ j. cond (leb (nat_abs (e.stride j)) c.args.b) ((e.extent j - 1) * nat_abs (e.stride j)) 0) in
    omega (arith, part, c.loop-i.invariant.1, up_next c.args.b o.extents.now o.strides.now o.sound.paired c.loop-i.i c.loop-i-test.true c.loop-i.invariant.0)

pub loop-i-init : goal.loop-i-init
loop-i-init c = (omega arith, up_start c.args.b c.args.operand.extents.now c.args.operand.strides.now c.args.operand.sound.paired)

pub part_up_to-sum-requires : goal.part_up_to-sum-requires
part_up_to-sum-requires c =
    let o = c.args.operand in
    omega (arith, c.along.ensures.extent, nozero_at o.extents.now (c.loop-i.i - 1) (no_zero_of o.extents.now o.sound.some) (omega arith))

pub overflow_add-sum : goal.overflow_add-sum
overflow_add-sum c =
    let o = c.args.operand in
    omega (arith, more (goal.at.overflow_add-sum c).After-part_up_to-sum, up_bound c.args.b o.extents.now o.strides.now o.sound.paired (c.loop-i.i - 1), o.sound.near)

pub loop-i-preserved : goal.loop-i-preserved
loop-i-preserved c = (omega arith, more (goal.at.loop-i-preserved c).After-part_up_to-sum)

pub returns : goal.returns
returns c =
    let a = c.args in
    let e : c.loop-i.i ≡ 0 = omega arith in
    c.loop-i.invariant.1 ∙ ap (λ (k : ℕ). reach_up_to a.b (drop k a.operand.extents.now) (drop k a.operand.strides.now)) e
