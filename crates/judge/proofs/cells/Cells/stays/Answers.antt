-- `judge::cells::Cells::stays` meets its contract. Assumes nothing.
use mathlib.Core.Path.{refl, ◌∙◌}
use mathlib.Core.Bool.{Bool}
use Prim.Native.Nat.{ℕ}
use native.Mathlib.Omega.{arith}
use lib.ListN.{length}
use Rattle.std.proofs.Common.{rules}
use Rattle.std.proofs.lemmas.Iterator.{YieldsList-from_range}
use Rattle.std.proofs.lemmas.Iterator.Search.{all_from_yields_List}
use Rattle.laws.specs.Base.Ranges.{all_of_range}
use Rattle.judge.specs.Readers.{stays_at, stays}
use Rattle.judge.proofs.cells.Cells.stays.Goals as goal

pub returns : goal.returns
unfolding stays
returns c =
    let a = c.args in
    let n : ℕ = length a.self.extents.now in
    -- whether the run stays on axis i
    let test : ℕ → Bool = stays_at a.self.extents.now a.index.now a.run.axis a.run.len in
    all_from_yields_List test _ _ _ c.all.ensures.ran (YieldsList-from_range 0 n n refl (omega arith)) (λ x b q k. search rules)
    ∙ all_of_range test 0 n
