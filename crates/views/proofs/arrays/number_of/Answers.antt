-- `views::arrays::number_of` meets its contract. The loop keeps the figures of the axes from i on. Assumes nothing.
use mathlib.Core.Path.{◌≡◌, sym, ap, ◌∙◌, subst}
use mathlib.Core.List.{[]}
use Prim.Native.Nat.{ℕ, ◌+◌, ◌-◌}
use native.Mathlib.Omega.{arith}
use lib.ListN.{get_or}
use Rattle.strided.specs.declared.Plan.{Plan}
use Rattle.strided.specs.Memory.{plan_of}
use Rattle.views.specs.Tally.{tallied, numbered, Room, First}
use Rattle.views.proofs.Tallies.{tally_from, tally_none, tally_step, tally_room, tally_first, tally_number, number_none}
use Rattle.views.proofs.arrays.number_of.Goals as goal

pub returns-then-rank-eq0 : goal.returns-then-rank-eq0
returns-then-rank-eq0 c =
    let a = c.args in
    number_none (plan_of a.rank 0 a.extents.now a.blocks.now []) a.counters.now c.if-rank-eq0.true

pub loop-i-init : goal.loop-i-init
loop-i-init c =
    let a = c.args in
    (omega (arith, c.if-rank-eq0.false), omega arith, sym (tally_none (plan_of a.rank 0 a.extents.now a.blocks.now []) a.counters.now))

pub tally_axis-t-requires : goal.tally_axis-t-requires
tally_axis-t-requires c =
    let a = c.args in
    let p : Plan = plan_of a.rank 0 a.extents.now a.blocks.now [] in
    let j : ℕ = c.loop-i.i - 1 in
    let i : j + 1 ≡ c.loop-i.i = omega arith in
    subst (Room (get_or a.extents.now j 0) c.width_of-width.result (get_or a.counters.now j 0))
    (ap (tally_from p a.counters.now) i ∙ sym c.loop-i.invariant.2)
    (tally_room p a.counters.now c.requires j (omega (arith, c.loop-i.invariant.1)) c.width_of-width.ensures)

pub loop-i-preserved : goal.loop-i-preserved
loop-i-preserved c =
    let a = c.args in
    let p : Plan = plan_of a.rank 0 a.extents.now a.blocks.now [] in
    let j : ℕ = c.loop-i.i - 1 in
    let i : c.loop-i.i ≡ j + 1 = omega arith in (
      omega arith,
      omega (arith, c.loop-i.invariant.1),
      c.tally_axis-t.ensures
          ∙ ap (tallied (get_or a.extents.now j 0) c.width_of-width.result (get_or a.counters.now j 0)) (c.loop-i.invariant.2 ∙ ap (tally_from p a.counters.now) i)
          ∙ tally_step p a.counters.now c.requires j (omega (arith, c.loop-i.invariant.1)) c.width_of-width.ensures,
    )

pub number_first-requires : goal.number_first-requires
number_first-requires c =
    let a = c.args in
    let p : Plan = plan_of a.rank 0 a.extents.now a.blocks.now [] in
    let i : 1 ≡ c.loop-i.i = omega arith in
    subst (First (get_or a.extents.now 0 0) c.width_of-width-2.result (get_or a.counters.now 0 0))
    (ap (tally_from p a.counters.now) i ∙ sym c.loop-i.invariant.2)
    (tally_first p a.counters.now c.requires (omega (arith, c.loop-i.invariant.1)) c.width_of-width-2.ensures)

pub returns : goal.returns
returns c =
    let a = c.args in
    let p : Plan = plan_of a.rank 0 a.extents.now a.blocks.now [] in
    let i : c.loop-i.i ≡ 1 = omega arith in
    c.number_first.ensures
    ∙ ap (numbered (get_or a.extents.now 0 0) c.width_of-width-2.result (get_or a.counters.now 0 0)) (c.loop-i.invariant.2 ∙ ap (tally_from p a.counters.now) i)
    ∙ tally_number p a.counters.now c.requires (omega (arith, c.loop-i.invariant.1)) c.width_of-width-2.ensures
