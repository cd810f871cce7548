-- `states::starts::span_of` meets its contract. The invariant: each sum, with what is left of it from axis i on, is the whole.
-- Assumes nothing.
use Rattle.laws.specs.Walk.Row9.{below_term}
use Rattle.layout.proofs.Caps.{elem_read}
use Prim.Native.Nat.{◌<◌, ◌*◌, ◌^◌, ◌-◌}
use native.Mathlib.Nat.{zero-add}
use native.Mathlib.Omega.{arith}
use lib.IntN.{ℤ, nat_abs, pos}
use lib.ListN.{get_or}
use mathlib.Core.Path.{◌≡◌, sym, ap, subst, ◌∙◌}
use Rattle.states.proofs.Ways.{counter_there, left_turn, left_fits, left_end, further_turn, further_fits, further_end, way, inside}
use Rattle.std.proofs.Common.{rules}
use Rattle.states.proofs.starts.span_of.Goals as goal

pub loop-i-init : goal.loop-i-init
loop-i-init c = (omega arith, (zero-add _, zero-add _))

pub invariant_of-axis : goal.invariant_of-axis
invariant_of-axis c =
    let a = c.args in
    let i = c.loop-i.i in
    record { near = subst (λ (z : ℤ). (get_or a.extents.now i 0 - 1) * nat_abs z < 2 ^ 63) (sym (elem_read a.strides.now i (search rules))) (way _ _ _ c.requires i c.loop-i-test.true) }

pub way-way-requires : goal.way-way-requires
way-way-requires c = omega (arith, inside _ _ _ c.requires c.loop-i.i c.loop-i-test.true)

pub bounds-counters-i : goal.bounds-counters-i
bounds-counters-i c =
    counter_there _ _ _ c.requires c.loop-i.i c.loop-i-test.true

pub below_at-term-requires : goal.below_at-term-requires
below_at-term-requires c = inside _ _ _ c.requires c.loop-i.i c.loop-i-test.true

pub overflow_add-reach : goal.overflow_add-reach
overflow_add-reach c =
    -- what a turn adds
    let way-here : let a = c.args in c.way-way.result ≡ (get_or a.extents.now c.loop-i.i 0 - 1) * nat_abs (get_or a.strides.now c.loop-i.i (pos 0)) = let a = c.args in
    c.way-way.ensures ∙ ap (λ (z : ℤ). (get_or a.extents.now c.loop-i.i 0 - 1) * nat_abs z) (elem_read a.strides.now c.loop-i.i (search rules)) in
    let l = c.loop-i in
    record { fits = further_fits _ _ _ c.requires l.reach l.i _ c.loop-i-test.true l.invariant.1.0 way-here }

pub overflow_add-below : goal.overflow_add-below
overflow_add-below c =
    let below-here : let a = c.args in c.below_at-term.result ≡ below_term (get_or a.extents.now c.loop-i.i 0) (get_or a.counters.now c.loop-i.i 0) (get_or a.strides.now c.loop-i.i (pos 0)) = let a = c.args in
    c.below_at-term.ensures ∙ ap (below_term (get_or a.extents.now c.loop-i.i 0) (get_or a.counters.now c.loop-i.i 0)) (elem_read a.strides.now c.loop-i.i (search rules)) in
    let l = c.loop-i in
    record { fits = left_fits _ _ _ c.requires l.below l.i _ c.loop-i-test.true l.invariant.1.1 below-here }

pub loop-i-preserved : goal.loop-i-preserved
loop-i-preserved c =
    let way-here : let a = c.args in c.way-way.result ≡ (get_or a.extents.now c.loop-i.i 0 - 1) * nat_abs (get_or a.strides.now c.loop-i.i (pos 0)) = let a = c.args in
    c.way-way.ensures ∙ ap (λ (z : ℤ). (get_or a.extents.now c.loop-i.i 0 - 1) * nat_abs z) (elem_read a.strides.now c.loop-i.i (search rules)) in
    let below-here : let a = c.args in c.below_at-term.result ≡ below_term (get_or a.extents.now c.loop-i.i 0) (get_or a.counters.now c.loop-i.i 0) (get_or a.strides.now c.loop-i.i (pos 0)) = let a = c.args in
    c.below_at-term.ensures ∙ ap (below_term (get_or a.extents.now c.loop-i.i 0) (get_or a.counters.now c.loop-i.i 0)) (elem_read a.strides.now c.loop-i.i (search rules)) in
    let l = c.loop-i in
    let p = c.requires in
    let t = c.loop-i-test.true in
    (omega arith, (further_turn _ _ _ p l.reach l.i _ t l.invariant.1.0 way-here, left_turn _ _ _ p l.below l.i _ t l.invariant.1.1 below-here))

pub returns : goal.returns
returns c =
    let p = c.requires in
    (further_end _ _ _ p _ _ c.loop-i-test.false c.loop-i.invariant.1.0, left_end _ _ _ p _ _ c.loop-i-test.false c.loop-i.invariant.1.1)
