-- `walk::onward::advance_on` meets its contract. Assumes nothing.
use mathlib.Core.Bool.{false}
use mathlib.Core.Path.{sym, ap, subst, ◌∙◌}
use Prim.Native.Nat.{ℕ, ◌≤◌}
use native.Mathlib.Nat.{le_refl}
use Rattle.strided.specs.declared.Plan.{Plan}
use Rattle.advance.specs.Axis.{widths}
use Rattle.advance.specs.Carry.{Single, CarriedTo, state_of}
use Rattle.advance.proofs.Turns.{inside_done, tile_done}
use Rattle.walk.specs.Onward.{inner_of, lone}
use Rattle.walk.proofs.Widths.{inner-single, roomy_any, moved_any}
use Rattle.walk.proofs.onward.advance_on.Goals as goal

pub carry_on-requires : goal.carry_on-requires
carry_on-requires c =
    let p = c.args.plan.now in
    let rank = ap (λ (q : Plan). q.rank) c.plan.view_is in
    let single : Single c.inner_of-inner.result p (widths p) = subst (λ (n : ℕ). Single n p (widths p)) (sym (c.inner_of-inner.ensures ∙ ap inner_of rank)) (inner-single p c.requires.axes) in
    record { roomy = c.requires; last_le_rank = single.most }

pub carry_on-requires-else-carry_on : goal.carry_on-requires-else-carry_on
carry_on-requires-else-carry_on c =
    let rank = ap (λ (q : Plan). q.rank) c.plan.view_is in
    record { roomy = roomy_any c.carry_on.ensures.1.roomy; last_le_rank = subst (λ (n : ℕ). n ≤ c.args.plan.now.rank) (sym rank) (le_refl c.args.plan.now.rank) }

pub returns-then-carry_on : goal.returns-then-carry_on
returns-then-carry_on c =
    let p = c.args.plan.now in
    let rank = ap (λ (q : Plan). q.rank) c.plan.view_is in
    let single : Single c.inner_of-inner.result p (widths p) = subst (λ (n : ℕ). Single n p (widths p)) (sym (c.inner_of-inner.ensures ∙ ap inner_of rank)) (inner-single p c.requires.axes) in
    rw c.if-carry_on.true (_, inside_done single c.carry_on.ensures.1 c.if-carry_on.true)

pub returns-else-carry_on : goal.returns-else-carry_on
returns-else-carry_on c =
    let p = c.args.plan.now in
    let rank = ap (λ (q : Plan). q.rank) c.plan.view_is in
    let single : Single c.inner_of-inner.result p (widths p) = subst (λ (n : ℕ). Single n p (widths p)) (sym (c.inner_of-inner.ensures ∙ ap inner_of rank)) (inner-single p c.requires.axes) in
    let x = c.carry_on-else-carry_on in (
      x.ensures.0,
      tile_done single c.carry_on.ensures.1 c.if-carry_on.false
          (moved_any (subst (λ (q : Plan). CarriedTo false 0 q.rank p (widths p) (lone c.carry_on.new.c c.carry_on.new.o) x.result (state_of x.ensures.0 x.new.c x.new.o)) c.plan.view_is x.ensures.1)),
    )
