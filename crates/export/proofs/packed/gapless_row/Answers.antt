-- `export::packed::gapless_row` meets its contract. Assumes nothing.
use mathlib.Core.Path.{◌≡◌, sym, ◌∙◌}
use mathlib.Core.Logic.{⊎_elim, inl, inr}
use native.Mathlib.Omega.{arith}
use mir.Syntax.{w64}
use mir.Val.{to_z, of_z}
use borrow.Author.Rules.{rules}
use Rattle.export.proofs.Gaps.{rest_start, rest_fits, rest_turn, rest_end}
use Rattle.export.proofs.packed.gapless_row.Goals as goal

pub loop-extent-init : goal.loop-extent-init
loop-extent-init c = rest_start c.requires.len (search rules) (search rules)

pub overflow_mul-n : goal.overflow_mul-n
overflow_mul-n c =
    let s = c.in-Some.ensures.steps in
    let f = rest_fits c.loop-extent.invariant s.0 s.1 c.requires.cells.0 in
    let g = c.requires.cells.1 in
    omega (arith, f, g)

pub loop-extent-preserved : goal.loop-extent-preserved
loop-extent-preserved c =
    let s = c.in-Some.ensures.steps in
    let back : to_z w64 (of_z w64 c.in-Some.stride.now) ≡ c.in-Some.stride.now = search rules in
    rest_turn c.loop-extent.invariant s.0 s.1 (sym back ∙ c.differs.ensures c.if-differs.false)

pub returns : goal.returns
returns c = rest_end c.loop-extent.invariant (⊎_elim (λ x. inl x.1.0) (λ x. inr x.1.0) c.in-None.ensures.steps)
