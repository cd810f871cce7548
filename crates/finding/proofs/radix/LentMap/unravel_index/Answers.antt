-- `finding::radix::LentMap::unravel_index` meets its contract. The invariant: the axes before i are told, and what is left tells the others. Assumes nothing.
use mathlib.Core.Path.{◌≡◌, refl, ◌∙◌}
use mathlib.Core.Bool.{cond}
use mathlib.Core.List.{List}
use Prim.Native.Nat.{ℕ, suc, ◌+◌, ◌≤◌}
use native.Mathlib.Omega.{arith}
use lib.Dec.{eqb}
use lib.ListN.{get_or, drop}
use Rattle.finding.proofs.Turns.{tell_none, tell_turn, tell_end, next_counter, same_counter, axis_there, extent_positive}
use Rattle.finding.proofs.radix.LentMap.unravel_index.Goals as goal
use Rattle.finding.proofs.radix.LentMap.unravel_index.Goals.{then-self-i-ne1, else-self-i-ne1}

pub loop-i-init : goal.loop-i-init
loop-i-init c = tell_none c.args.self.sound c.args.counters.now _ refl

pub offset_bounds-self-i : goal.offset_bounds-self-i
offset_bounds-self-i c = omega (arith, c.args.self.sound.few-axes)

pub bounds-self-i : goal.bounds-self-i
bounds-self-i c = omega (arith, c.args.self.sound.few-axes)

pub overflow_add-j : goal.overflow_add-j
overflow_add-j c = omega (arith, c.loop-i.invariant.few, c.loop-i.invariant.fewer, c.args.self.sound.few-axes)

pub offset_bounds-self-i-in-loop-i : goal.offset_bounds-self-i-in-loop-i
offset_bounds-self-i-in-loop-i c = omega (arith, c.args.self.sound.few-axes)

pub bounds-self-i-in-loop-i : goal.bounds-self-i-in-loop-i
bounds-self-i-in-loop-i c = omega (arith, c.args.self.sound.few-axes)

pub offset_bounds-self-a : goal.offset_bounds-self-a
offset_bounds-self-a c =
    omega (arith, axis_there c.args.self.sound c.loop-i.i c.loop-i-test.true, c.args.self.sound.few-axes)

pub bounds-self-a : goal.bounds-self-a
bounds-self-a c =
    axis_there c.args.self.sound c.loop-i.i c.loop-i-test.true

pub remainder-requires : goal.remainder-requires
remainder-requires c =
    extent_positive c.args.self.sound c.loop-i.i c.loop-i-test.true c.requires

pub offset_bounds-out-a : goal.offset_bounds-out-a
offset_bounds-out-a c =
    omega (arith, axis_there c.args.self.sound c.loop-i.i c.loop-i-test.true, c.args.self.sound.few-axes)

pub bounds-out-a : goal.bounds-out-a
bounds-out-a c =
    omega (arith, axis_there c.args.self.sound c.loop-i.i c.loop-i-test.true, c.args.self.sound.few-axes)

pub quotient-x-requires : goal.quotient-x-requires
quotient-x-requires c =
    extent_positive c.args.self.sound c.loop-i.i c.loop-i-test.true c.requires

pub loop-i-preserved : goal.loop-i-preserved
loop-i-preserved c =
    let k = c.if-self-i-ne1 in
    let C : List ℕ = c.args.counters.now in
    let f : ℕ = get_or c.args.self.fused.now c.loop-i.i 0 in
    let way : (k.j ≤ c.loop-i.i + 1) × (k.x ≡ cond (eqb f 1) c.loop-i.x (get_or C c.loop-i.j 0)) × (drop k.j C ≡ cond (eqb f 1) (drop c.loop-i.j C) (drop (suc c.loop-i.j) C)) =
    elim k.branch [
      | then-self-i-ne1 w ↦ next_counter f c.loop-i.x (get_or C c.loop-i.j 0) c.loop-i.j k.x k.j c.loop-i.i C w.if-self-i-ne1.true (w.x-is ∙ w.counter-x.ensures) w.j-is c.loop-i.invariant.fewer
      | else-self-i-ne1 w ↦ same_counter f c.loop-i.x (get_or C c.loop-i.j 0) c.loop-i.j k.x k.j c.loop-i.i C w.if-self-i-ne1.false w.x-is w.j-is c.loop-i.invariant.fewer
    ] in
    tell_turn c.args.self.sound C c.loop-i.i c.loop-i.j c.loop-i.x k.x k.j c.loop-i.out c.loop-i.invariant c.loop-i-test.true way c.quotient-x.result c.remainder.result c.quotient-x.ensures c.remainder.ensures

pub returns : goal.returns
returns c =
    tell_end c.args.self.sound c.args.counters.now c.loop-i.i c.loop-i.j c.loop-i.x 0 0 c.loop-i.out c.loop-i.invariant c.loop-i-test.false
