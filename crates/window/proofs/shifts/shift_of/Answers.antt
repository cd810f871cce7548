-- `window::shifts::shift_of` meets its contract. Assumes nothing.
use mathlib.Core.Path.{◌≡◌, ◌∙◌, ap}
use mathlib.Core.Logic.{⊎_elim, inl, inr}
use lib.IntN.{ℤ, pos, ◌*ℤ◌}
use mir.Syntax.{w64}
use mir.Val.{to_z, of_z}
use Rattle.laws.specs.Base.Signs.{back}
use Rattle.window.proofs.Sums.{sum_start, term_near, sum_fits_lem, sum_turn, sum_end}
use borrow.Author.Rules.{rules}
use Rattle.window.proofs.shifts.shift_of.Goals as goal
use Rattle.window.proofs.shifts.shift_of.Goals.{After-term-sum}

pub loop-first-init : goal.loop-first-init
loop-first-init c = sum_start c.requires.strides_len c.requires.strides_bound (search rules) (search rules)

pub term-sum-requires : goal.term-sum-requires
term-sum-requires c =
    let s = c.in-Some.ensures.steps in
    rw (back c.in-Some.stride.now (search rules)) (term_near c.loop-first.invariant s.0 s.1)

-- the term that is added
added : (c : After-term-sum) → to_z w64 (of_z w64 c.term-sum.result) ≡ pos c.in-Some.first.now *ℤ c.in-Some.stride.now
added c =
    back c.term-sum.result (record { sfits = c.term-sum.type_inv }) ∙ c.term-sum.ensures
    ∙ ap (λ (z : ℤ). pos c.in-Some.first.now *ℤ z) (back c.in-Some.stride.now (search rules))

pub overflow_add-sum : goal.overflow_add-sum
overflow_add-sum c = let s = c.in-Some.ensures.steps in rw (added c) (sum_fits_lem c.loop-first.invariant s.0 s.1)

pub loop-first-preserved : goal.loop-first-preserved
loop-first-preserved c =
    let s = c.in-Some.ensures.steps in
    let f = sum_fits_lem c.loop-first.invariant s.0 s.1 in
    rw (added c, back _ f) (sum_turn c.loop-first.invariant s.0 s.1)

pub returns : goal.returns
returns c = sum_end c.loop-first.invariant (⊎_elim (λ x. inl x.1.0) (λ x. inr x.1.0) c.in-None.ensures.steps)
