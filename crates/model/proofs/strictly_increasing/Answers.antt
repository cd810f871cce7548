-- `model::strictly_increasing` meets its contract: the two tests of `increasing`, in turn. Assumes nothing.
use native.Mathlib.Omega.{arith}
use native.Mathlib.Numerals.{add-one}
use mathlib.Core.Path.{refl, sym, ap, ◌∙◌}
use mathlib.Core.Bool.{Bool}
use mathlib.Core.List.{List}
use Prim.Native.Nat.{ℕ, ◌+◌, ◌-◌, ◌<◌}
use lib.Dec.{ltb}
use lib.IntN.{ℤ}
use borrow.Author.Tests.{le-ltb, tests}
use Rattle.std.proofs.Common.{rules}
use Rattle.std.proofs.lemmas.Iterator.{YieldsList-from_range}
use Rattle.std.proofs.lemmas.Iterator.Search.{all_from_yields_List}
use Rattle.laws.specs.Base.Ranges.{all_of_range}
use Rattle.laws.specs.Cut.Ranges.{every_cong}
use Rattle.laws.specs.Cut.Tables.{stride_size}
use Rattle.model.specs.Exits.{rises}
use Rattle.model.proofs.Growing.{increasing-zero, increasing-rest}
use Rattle.model.proofs.strictly_increasing.Goals as goal

pub returns-then-stride_size-gt0 : goal.returns-then-stride_size-gt0
returns-then-stride_size-gt0 c =
    let o = c.args.operand in
    let ss : List ℤ = o.axes.strides.now in
    let n : ℕ = o.axes.rank - 1 in
    let first : 0 < stride_size ss o.k 0 = omega (arith, c.stride_size.ensures, c.if-stride_size-gt0.true) in
    -- the test of two neighbours
    let test : ℕ → Bool = λ i. ltb (stride_size ss o.k i) (stride_size ss o.k (i + 1)) in
    all_from_yields_List test _ _ _ c.all.ensures.ran (YieldsList-from_range 0 n n refl (omega arith)) (λ x b q k. search (rules, tests))
    ∙ all_of_range test 0 n
    ∙ every_cong test (rises ss o.k) 0 n (λ i p q. ap (λ (j : ℕ). ltb (stride_size ss o.k i) (stride_size ss o.k j)) (add-one i))
    ∙ sym (increasing-rest ss o.axes.rank o.k _ first refl)

pub returns-else-stride_size-gt0 : goal.returns-else-stride_size-gt0
returns-else-stride_size-gt0 c =
    let o = c.args.operand in
    le-ltb _ _ c.if-stride_size-gt0.false ∙ sym (increasing-zero o.axes.strides.now o.axes.rank o.k (omega (arith, c.stride_size.ensures, c.if-stride_size-gt0.false)))
