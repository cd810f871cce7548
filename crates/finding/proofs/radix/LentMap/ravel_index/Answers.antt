-- `finding::radix::LentMap::ravel_index` meets its contract. The invariant: the axes from i on are done. Assumes nothing.
use mathlib.Core.Path.{◌≡◌, refl, subst}
use Prim.Native.Nat.{ℕ, ◌+◌, ◌-◌, ◌*◌, ◌^◌, ◌<◌}
use native.Mathlib.Omega.{arith}
use lib.ListN.{length, get_or, take}
use Rattle.finding.proofs.Kept.{extents-few}
use Rattle.finding.proofs.Turns.{Done, done_none, done_end, done_fits, done_one, done_left, done_other, axis_there, index_long, fused_counted}
use Rattle.finding.proofs.radix.LentMap.ravel_index.Goals as goal
use Rattle.finding.proofs.radix.LentMap.ravel_index.Goals.{In-loop-i, Then-self-i-ne1}

-- the axis of a turn is there
there : (c : In-loop-i) → get_or c.args.self.order.now (c.loop-i.i - 1) 0 < length c.args.self.extents.now
there c = axis_there c.args.self.sound (c.loop-i.i - 1) (omega (arith, c.loop-i-test, c.loop-i.invariant.0))

-- the sum of a turn
sum_fits : (c : In-loop-i) → let a = c.args in let i = get_or a.self.order.now (c.loop-i.i - 1) 0 in c.loop-i.z * get_or a.self.extents.now i 0 + get_or a.index.now i 0 < 2 ^ 64
sum_fits c = done_fits c.args.self.sound c.args.index.now c.requires.inside c.loop-i.i c.loop-i.j c.loop-i.z c.loop-i.out c.loop-i-test.true c.loop-i.invariant.0 c.loop-i.invariant.2

-- a counter is left to store
left_one : (c : Then-self-i-ne1) → 0 < c.loop-i.j
left_one c = done_left c.args.self.sound c.args.index.now c.requires.inside c.loop-i.i c.loop-i.j c.loop-i.z c.loop-i.out c.loop-i-test.true c.loop-i.invariant.0 c.loop-i.invariant.2 c.if-self-i-ne1.true

pub loop-i-init : goal.loop-i-init
loop-i-init c =
    let a = c.args in (
      omega arith,
      omega (arith, c.requires.rank, extents-few (take (length a.self.extents.now) a.self.fused.now), fused_counted c.args.self.sound, c.args.self.sound.few-axes),
      done_none c.args.self.sound a.index.now c.requires.inside a.rank _ c.requires.rank refl,
    )

pub offset_bounds-self-i-in-loop-i : goal.offset_bounds-self-i-in-loop-i
offset_bounds-self-i-in-loop-i c = omega (arith, c.loop-i.invariant.0, c.args.self.sound.few-axes)

pub bounds-self-i-in-loop-i : goal.bounds-self-i-in-loop-i
bounds-self-i-in-loop-i c = omega (arith, c.loop-i.invariant.0, c.args.self.sound.few-axes)

pub offset_bounds-self-a : goal.offset_bounds-self-a
offset_bounds-self-a c =
    omega (arith, there (goal.at.offset_bounds-self-a c).In-loop-i, c.args.self.sound.few-axes)

pub bounds-self-a : goal.bounds-self-a
bounds-self-a c =
    there (goal.at.bounds-self-a c).In-loop-i

pub offset_bounds-index-a : goal.offset_bounds-index-a
offset_bounds-index-a c =
    omega (arith, there (goal.at.offset_bounds-index-a c).In-loop-i, c.args.self.sound.few-axes)

pub bounds-index-a : goal.bounds-index-a
bounds-index-a c =
    omega (arith, there (goal.at.bounds-index-a c).In-loop-i, index_long c.args.self.sound c.args.index.now c.requires.inside)

pub overflow_mul-z : goal.overflow_mul-z
overflow_mul-z c =
    record { fits = omega (arith, sum_fits (goal.at.overflow_mul-z c).In-loop-i) }

pub overflow_add-z : goal.overflow_add-z
overflow_add-z c =
    record { fits = sum_fits (goal.at.overflow_add-z c).In-loop-i }

pub offset_bounds-self-i : goal.offset_bounds-self-i
offset_bounds-self-i c = omega (arith, c.loop-i.invariant.0, c.args.self.sound.few-axes)

pub bounds-self-i : goal.bounds-self-i
bounds-self-i c = omega (arith, c.loop-i.invariant.0, c.args.self.sound.few-axes)

pub overflow_sub-j : goal.overflow_sub-j
overflow_sub-j c =
    left_one (goal.at.overflow_sub-j c).Then-self-i-ne1

pub offset_bounds-out-j : goal.offset_bounds-out-j
offset_bounds-out-j c = omega (arith, c.loop-i.invariant.1)

pub bounds-out-j : goal.bounds-out-j
bounds-out-j c =
    omega (arith, left_one (goal.at.bounds-out-j c).Then-self-i-ne1, c.loop-i.invariant.1)

pub loop-i-preserved-then-self-i-ne1 : goal.loop-i-preserved-then-self-i-ne1
loop-i-preserved-then-self-i-ne1 c = (
  omega (arith, c.loop-i.invariant.0),
  omega (arith, c.loop-i.invariant.1),
  done_other c.args.self.sound c.args.index.now c.requires.inside c.loop-i.i c.loop-i.j c.loop-i.z c.loop-i.out c.loop-i-test.true c.loop-i.invariant.0 c.loop-i.invariant.2 c.if-self-i-ne1.true,
)

pub loop-i-preserved : goal.loop-i-preserved
loop-i-preserved c = (
  omega (arith, c.loop-i.invariant.0),
  c.loop-i.invariant.1,
  done_one c.args.self.sound c.args.index.now c.requires.inside c.loop-i.i c.loop-i.j c.loop-i.z c.loop-i.out c.loop-i-test.true c.loop-i.invariant.0 c.loop-i.invariant.2 c.if-self-i-ne1.false,
)

pub returns : goal.returns
returns c =
    let a = c.args in
    let z : c.loop-i.i ≡ 0 = omega (arith, c.loop-i-test) in
    done_end c.args.self.sound a.index.now c.requires.inside c.loop-i.j c.loop-i.z c.loop-i.out
    (subst (λ (i : ℕ). Done a.self.extents.now a.self.order.now a.self.fused.now a.index.now i c.loop-i.j c.loop-i.z c.loop-i.out) z c.loop-i.invariant.2)
