-- `region::memory_region` meets its contract. The invariant: r is the sum of the first k operands' regions, saturated.
-- Saturating at each step is as good as at the end (laws, Cut/Saturate), and a sum at the limit stays there. Assumes nothing.
use native.Mathlib.Omega.{arith}
use mathlib.Core.Path.{◌≡◌, sym, ap, ◌∙◌}
use Prim.Native.Nat.{ℕ, min}
use Rattle.strided.specs.Base.{sum}
use Rattle.strided.specs.Region.{region_of, region}
use Rattle.laws.specs.Base.Ranges.{sum-next, sum_mono}
use Rattle.laws.specs.Cut.Ranges.{sum_none}
use Rattle.laws.specs.Cut.Saturate.{cap, capped, add_sat}
use Rattle.region.specs.Tail.{axes}
use Rattle.region.proofs.memory_region.Goals as goal

pub loop-k-init : goal.loop-k-init
loop-k-init c =
    let a = c.args in
    omega (arith, sum_none (region_of a.tail.machine.numbers a.tail.bytes.now a.blocks.now a.tail.offset (axes a.tail)) 0)

pub returns-then-r-limit : goal.returns-then-r-limit
unfolding region
returns-then-r-limit c = let a = c.args in
    let l = c.loop-k in
    let f : ℕ → ℕ = region_of a.tail.machine.numbers a.tail.bytes.now a.blocks.now a.tail.offset (axes a.tail) in
    omega (arith, l.invariant, sum_mono f 0 l.k a.tail.operands (omega arith))

pub loop-k-preserved : goal.loop-k-preserved
loop-k-preserved c = let a = c.args in
    let l = c.loop-k in
    let f : ℕ → ℕ = region_of a.tail.machine.numbers a.tail.bytes.now a.blocks.now a.tail.offset (axes a.tail) in
    add_sat (sum f 0 l.k) (f l.k) (cap a.tail.machine.numbers) l.invariant c.region_of.ensures c.min-r.ensures
    ∙ capped (cap a.tail.machine.numbers) (sym (sum-next f l.k))

pub returns : goal.returns
unfolding region
returns c = let a = c.args in
    let l = c.loop-k in
    let e : l.k ≡ a.tail.operands = omega arith in
    l.invariant ∙ ap (λ (k : ℕ). min (sum (region_of a.tail.machine.numbers a.tail.bytes.now a.blocks.now a.tail.offset (axes a.tail)) 0 k) (cap a.tail.machine.numbers)) e
