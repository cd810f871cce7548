-- `span::cell_outside` meets its contract. Assumes nothing.
use mathlib.Core.Path.{◌≡◌, sym, ◌∙◌}
use mir.Facts.{to_z-of_z}
use mathlib.Core.Bool.{false}
use borrow.Author.Tests.{lt-ltb}
use Rattle.strided.specs.Layout.{has_zero}
use Rattle.span.proofs.Sums.{full, no_cell, starts_below, too_low, down_le, top_test}
use Rattle.span.proofs.cell_outside.Goals as goal
use mir.Syntax.{w64}

pub returns-then-has_zero : goal.returns-then-has_zero
returns-then-has_zero c = no_cell _ _ _ _ (sym c.has_zero.ensures ∙ c.if-has_zero.true)

pub returns-then-start-lt0 : goal.returns-then-start-lt0
returns-then-start-lt0 c = starts_below _ _ _ (sym c.has_zero.ensures ∙ c.if-has_zero.false) _ (rw (to_z-of_z {w = w64} c.ranges.start) at c.if-start-lt0.true)

pub down_of-below-requires : goal.down_of-below-requires
down_of-below-requires c =
    -- where no extent is 0
    let whole : has_zero c.args.extents.now ≡ false = sym c.has_zero.ensures ∙ c.if-has_zero.false in
    full _ _ c.requires whole

pub returns-then-at-below : goal.returns-then-at-below
returns-then-at-below c =
    let whole : has_zero c.args.extents.now ≡ false = sym c.has_zero.ensures ∙ c.if-has_zero.false in
    lt-ltb _ _ c.if-at-below.true ∙ too_low _ c.ranges.start c.if-start-lt0.false _ _ _ c.requires whole _ c.down_of-below.ensures c.if-at-below.true

pub overflow_sub-result : goal.overflow_sub-result
overflow_sub-result c =
    let whole : has_zero c.args.extents.now ≡ false = sym c.has_zero.ensures ∙ c.if-has_zero.false in
    down_le _ c.ranges.start c.if-start-lt0.false _ _ c.args.cells c.requires whole _ c.down_of-below.ensures _ c.reach_of.ensures

pub returns-else-at-below : goal.returns-else-at-below
returns-else-at-below c =
    let whole : has_zero c.args.extents.now ≡ false = sym c.has_zero.ensures ∙ c.if-has_zero.false in
    top_test _ c.ranges.start c.if-start-lt0.false _ _ _ c.requires whole _ c.down_of-below.ensures _ c.reach_of.ensures c.if-at-below.false
