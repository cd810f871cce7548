-- `decline::declines_tiles` meets its contract: each way out is an answer of `declined`. The table of byte strides that `declined` looks at is
-- never made. Assumes nothing.
use native.Mathlib.Nat.{le_of_eq}
use native.Mathlib.Omega.{arith}
use mathlib.Core.Path.{◌≡◌, refl, sym, ◌∙◌}
use mathlib.Core.Bool.{Bool}
use Prim.Native.Nat.{ℕ}
use lib.Dec.{ltb}
use lib.ListN.{length, take, length-take}
use borrow.Author.Tests.{lt-ltb, le-ltb}
use Rattle.std.proofs.Common.{rules}
use Rattle.std.proofs.Math.Bool.{and-false}
use Rattle.std.proofs.lemmas.Iterator.{YieldsList-from_range}
use Rattle.std.proofs.lemmas.Iterator.Search.{all_from_yields_List}
use Rattle.strided.specs.Region.{byte_table}
use Rattle.strided.specs.Decline.{passes, declined}
use Rattle.laws.specs.Base.Ranges.{all_of_range}
use Rattle.laws.specs.Cut.Ranges.{every_cong}
use Rattle.decline.specs.Slabs.{clear_at}
use Rattle.decline.proofs.Passes.{passes_is, cut_within}
use Rattle.decline.proofs.declines_tiles.Goals as goal

pub returns-in_default : goal.returns-in_default
unfolding declined
returns-in_default c =
    let a = c.args in
    let long : length (take a.axes.rank a.blocks.now) ≡ a.axes.rank = omega (arith, length-take a.axes.rank a.blocks.now, a.axes.to) in
    let cut = cut_within a.axes.extents.now a.blocks.now a.axes.rank _ (omega (arith, a.axes.to)) c.in_default.ensures.0 in
    sym (rw (← cut.0, le-ltb _ _ (le_of_eq (sym long))) (and-false (ltb 0 (length (take a.axes.rank a.blocks.now)))))

pub returns-then-cut-eq0 : goal.returns-then-cut-eq0
unfolding declined
returns-then-cut-eq0 c =
    let f = c.in-Some in
    let cut = cut_within c.args.axes.extents.now c.args.blocks.now c.args.axes.rank f.cut (omega (arith, c.args.axes.to)) f.ensures.0 in
    rw (← cut.0, c.if-cut-eq0.true) refl

pub returns : goal.returns
unfolding declined
returns c =
    let f = c.in-Some in
    let a = c.args in
    let n : ℕ = length a.axes.sizes.now in
    -- the test of one operand at the cut
    let test : ℕ → Bool = clear_at a.machine.numbers a.axes f.cut in
    let cut = cut_within a.axes.extents.now a.blocks.now a.axes.rank f.cut (omega (arith, a.axes.to)) f.ensures.0 in
    all_from_yields_List test _ _ _ c.all.ensures.ran (YieldsList-from_range 0 n n refl (omega arith)) (λ x b q k. search rules)
    ∙ all_of_range test 0 n
    ∙ sym (rw (← cut.0, lt-ltb 0 f.cut (omega (arith, c.if-cut-eq0.false)), lt-ltb f.cut a.axes.rank (omega (arith, f.ensures.1, length-take a.axes.rank a.blocks.now)))
    (every_cong (passes a.machine.numbers (byte_table a.axes.sizes.now a.axes.strides.now) a.axes.sizes.now a.axes.extents.now f.cut a.axes.rank) test 0 n
    (λ k p q. passes_is a.machine.numbers a.axes f.cut k cut.1)))
