-- `window::strides::some_over_in_row` meets its contract. Assumes nothing.
use mathlib.Core.Path.{refl, ap, ◌∙◌}
use mathlib.Core.Bool.{Bool, not}
use Prim.Native.Nat.{ℕ, ◌*◌}
use native.Mathlib.Omega.{arith}
use lib.IntN.{ℤ, pos}
use lib.ListN.{length, get_or}
use mathlib.Core.List.{List}
use Rattle.std.proofs.Common.{rules}
use Rattle.std.proofs.iter.Serving.{serving}
use Rattle.std.proofs.lemmas.Iterator.{YieldsList-from_range}
use Rattle.std.proofs.lemmas.Iterator.Search.{any_from_yields_List}
use Rattle.strided.specs.Base.{some_of}
use Rattle.strided.specs.Layout.{in_i64}
use Rattle.laws.specs.Base.Ranges.{any_of_range}
use Rattle.window.specs.Window.{stepped_stride, stride_over}
use Rattle.window.specs.Selected.{new_strides}
use Rattle.window.proofs.Selected.{over_made, row_long, some_moved}
use Rattle.window.proofs.strides.some_over_in_row.Goals as goal

pub any-requires-clause-callable : goal.any-requires-clause-callable
any-requires-clause-callable c = let a = c.args in grind (serving, row_long a.selection a.k c.requires c.row.ensures)

pub returns : goal.returns
returns c =
    let a = c.args in
    let s = a.selection in
    let from : ℕ = a.k * length s.layout.extents.now in
    let row : List ℤ = c.row.result.strides.now in
    let n : ℕ = length row in
    -- the test of one stride, as the code makes it
    let test : ℕ → Bool = λ i. not (in_i64 (stepped_stride (get_or s.picks.counts.now i 0) (get_or s.picks.steps.now i (pos 0)) (get_or row i (pos 0)))) in
    any_from_yields_List test _ _ _ c.any.ensures.ran (YieldsList-from_range 0 n n refl (omega arith)) (λ x b q k. search rules)
    ∙ any_of_range test 0 n
    ∙ some_moved (stride_over (new_strides s)) test from n (λ i l. over_made s a.k c.requires c.row.ensures i l refl)
    ∙ ap (some_of (stride_over (new_strides s)) from) (row_long s a.k c.requires c.row.ensures)
