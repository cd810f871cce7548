-- `span::down_of` meets its contract. The invariant: the sum, with what is left of it, is the whole. Assumes nothing.
use mathlib.Core.Path.{◌≡◌}
use mathlib.Core.Logic.{⊎_elim, inl, inr}
use mir.Syntax.{w64}
use mir.Val.{to_z, of_z}
use borrow.Author.Rules.{rules}
use Rattle.span.proofs.Sums.{way, some, left_turn, left_fits, left_start, none_left}
use Rattle.span.proofs.down_of.Goals as goal

pub loop-extent-init : goal.loop-extent-init
loop-extent-init c = left_start c.requires (search rules) (search rules)

-- the stride as the code reads it
pub invariant_of-axis : goal.invariant_of-axis
invariant_of-axis c =
    let s = c.in-Some.ensures.steps in
    let back : to_z w64 (of_z w64 c.in-Some.stride.now) ≡ c.in-Some.stride.now = search rules in
    record { near = rw back (way c.loop-extent.invariant s.0 s.1) }

pub below_at-sum-requires : goal.below_at-sum-requires
below_at-sum-requires c = let s = c.in-Some.ensures.steps in some c.loop-extent.invariant s.0 s.1

pub overflow_add-sum : goal.overflow_add-sum
overflow_add-sum c =
    let s = c.in-Some.ensures.steps in
    let back : to_z w64 (of_z w64 c.in-Some.stride.now) ≡ c.in-Some.stride.now = search rules in
    record { fits = left_fits c.loop-extent.invariant s.0 s.1 (rw back at c.below_at-sum.ensures) c.requires }

pub loop-extent-preserved : goal.loop-extent-preserved
loop-extent-preserved c =
    let s = c.in-Some.ensures.steps in
    let back : to_z w64 (of_z w64 c.in-Some.stride.now) ≡ c.in-Some.stride.now = search rules in
    left_turn c.loop-extent.invariant s.0 s.1 (rw back at c.below_at-sum.ensures)

pub returns : goal.returns
returns c = none_left c.loop-extent.invariant (⊎_elim (λ x. inl x.1.0) (λ x. inr x.1.0) c.in-None.ensures.steps)
