-- `distinct::many_repeat` meets its contract. The invariant: the axes from i on are listed, and the list rises. Assumes nothing.
use mathlib.Core.Path.{◌≡◌, refl}
use Prim.Native.Nat.{ℕ, ◌-◌}
use native.Mathlib.Omega.{arith}
use lib.IntN.{pos, nat_abs}
use lib.ListN.{get_or, replicate, length-replicate}
use Rattle.std.proofs.Common.{rules}
use Rattle.laws.specs.Refusals.Zeros.{no_zero_of}
use Rattle.distinct.proofs.Layouts.{behind_starts, behind_ready, behind_more, behind_one, behind_folds, behind_ends, shared_true, shared_false}
use Rattle.distinct.proofs.many_repeat.Goals as goal
use Rattle.distinct.proofs.many_repeat.Goals.{After-unsigned_abs}

-- the size of the axis's stride
size_is : (c : After-unsigned_abs) → c.unsigned_abs.result ≡ nat_abs (get_or c.args.operand.strides.now (c.loop-i.i - 1) (pos 0))
size_is c = search rules

pub loop-i-init : goal.loop-i-init
loop-i-init c =
    let long = length-replicate {A = ℕ} 4096 0 in
    (behind_starts 4096 c.args.operand.extents.now c.args.operand.strides.now (replicate 4096 0) c.args.operand.sound.paired long refl, ((λ y q. absurd q), tt))

pub spread-requires : goal.spread-requires
spread-requires c =
    let s = c.args.operand.sound in
    let v = c.loop-i.invariant in
    let size = size_is (goal.at.spread-requires c).After-unsigned_abs in
    let r = behind_ready 4096 _ _ s.paired (no_zero_of _ s.some) c.requires s.near _ _ _ v.0 c.loop-i-test.true in
    (r.some, r.room, rw size r.high, record { long = omega (arith, r.long, v.0.long); rising = v.1; below = rw size r.low })

pub loop-i-preserved-then-extent-gt1 : goal.loop-i-preserved-then-extent-gt1
loop-i-preserved-then-extent-gt1 c =
    let s = c.args.operand.sound in
    let k = c.spread in
    let size = size_is (goal.at.loop-i-preserved-then-extent-gt1 c).After-unsigned_abs in (
      behind_more 4096 _ _ s.paired (no_zero_of _ s.some) c.requires s.near _ _ _ c.loop-i.invariant.0 c.loop-i-test.true k.new.list (omega arith)
          (rw size at (k.ensures.spreading.listed c.if-not-spread.false)),
      k.ensures.rising c.if-not-spread.false,
    )

pub returns-then-not-spread : goal.returns-then-not-spread
returns-then-not-spread c =
    let s = c.args.operand.sound in
    let size = size_is (goal.at.returns-then-not-spread c).After-unsigned_abs in
    shared_true (behind_folds 4096 _ _ s.paired (no_zero_of _ s.some) c.requires s.near _ _ _ c.loop-i.invariant.0 c.loop-i-test.true (rw size at (c.spread.ensures.spreading.fold c.if-not-spread.true)))

pub loop-i-preserved : goal.loop-i-preserved
loop-i-preserved c =
    let s = c.args.operand.sound in
    let v = c.loop-i.invariant in
    (behind_one 4096 _ _ s.paired (no_zero_of _ s.some) c.requires s.near _ _ _ v.0 c.loop-i-test.true c.if-extent-gt1.false, v.1)

pub returns : goal.returns
returns c =
    let s = c.args.operand.sound in
    shared_false (behind_ends 4096 _ _ s.paired (no_zero_of _ s.some) c.requires s.near _ _ _ c.loop-i.invariant.0 c.loop-i-test.false)
