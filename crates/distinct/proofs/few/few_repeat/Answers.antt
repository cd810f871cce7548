-- `distinct::few::few_repeat` meets its contract. The invariant: the axes from i on are listed. Assumes nothing.
use native.Mathlib.Omega.{arith}
use mathlib.Core.Path.{◌≡◌, refl}
use Prim.Native.Nat.{ℕ, ◌-◌}
use lib.IntN.{pos, nat_abs}
use Rattle.std.proofs.Common.{rules}
use lib.ListN.{get_or, replicate, length-replicate}
use Rattle.laws.specs.Refusals.Zeros.{no_zero_of}
use Rattle.distinct.proofs.Layouts.{behind_starts, behind_ready, behind_more, behind_folds, behind_ends, shared_true, shared_false}
use Rattle.distinct.proofs.few.few_repeat.Goals as goal
use Rattle.distinct.proofs.few.few_repeat.Goals.{After-unsigned_abs}

-- the size of the axis's stride
size_is : (c : After-unsigned_abs) → c.unsigned_abs.result ≡ nat_abs (get_or c.args.operand.strides.now (c.loop-i.i - 1) (pos 0))
size_is c = search rules

pub loop-i-init : goal.loop-i-init
loop-i-init c =
    behind_starts 256 c.args.operand.extents.now c.args.operand.strides.now (replicate 256 0) c.args.operand.sound.paired (length-replicate {A = ℕ} 256 0) refl

pub extend-requires : goal.extend-requires
extend-requires c =
    let s = c.args.operand.sound in
    let size = size_is (goal.at.extend-requires c).After-unsigned_abs in
    let r = behind_ready 256 _ _ s.paired (no_zero_of _ s.some) c.requires s.near _ _ _ c.loop-i.invariant c.loop-i-test.true in
    (r.one, r.some, r.room, rw size r.low)

pub loop-i-preserved : goal.loop-i-preserved
loop-i-preserved c =
    let s = c.args.operand.sound in
    let k = c.extend in
    let size = size_is (goal.at.loop-i-preserved c).After-unsigned_abs in
    behind_more 256 _ _ s.paired (no_zero_of _ s.some) c.requires s.near _ _ _ c.loop-i.invariant c.loop-i-test.true k.new.list (omega arith)
    (rw size at (k.ensures.listed c.if-not-extend.false))

pub returns-then-not-extend : goal.returns-then-not-extend
returns-then-not-extend c =
    let s = c.args.operand.sound in
    let size = size_is (goal.at.returns-then-not-extend c).After-unsigned_abs in
    shared_true (behind_folds 256 _ _ s.paired (no_zero_of _ s.some) c.requires s.near _ _ _ c.loop-i.invariant c.loop-i-test.true (rw size at (c.extend.ensures.fold c.if-not-extend.true)))

pub returns : goal.returns
returns c =
    let s = c.args.operand.sound in
    shared_false (behind_ends 256 _ _ s.paired (no_zero_of _ s.some) c.requires s.near _ _ _ c.loop-i.invariant c.loop-i-test.false)
