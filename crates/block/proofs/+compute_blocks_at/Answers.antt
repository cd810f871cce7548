-- `block::compute_blocks_at` meets its contract. Each way out is a case of `cutting` (laws, Cut/Cases), whose tests are those of the code.
-- Assumes nothing.
use native.Mathlib.Omega.{arith}
use mathlib.Core.Path.{sym, subst, ◌∙◌}
use Prim.Native.Nat.{ℕ, ◌<◌, ◌≤◌}
use Rattle.strided.specs.Region.{region}
use Rattle.strided.specs.Cut.{least_byte}
use Rattle.laws.specs.Cut.Cases.{cut_empty, cut_fits, cut_keeps, cut_flat, cut_less}
use Rattle.region.specs.Tail.{axes}
use Rattle.block.proofs.+compute_blocks_at.Goals as goal

pub returns-then-tail : goal.returns-then-tail
returns-then-tail t c =
    let a = c.args in
    sym (cut_empty a.tail.machine.numbers a.tail.bytes.now a.tail.operands a.costs.now a.ranks a.tail.offset a.tail.rank a.blocks.now c.if-tail.true)

pub returns-then-r-tail : goal.returns-then-r-tail
returns-then-r-tail t c =
    let a = c.args in
    let small : region a.tail.machine.numbers a.tail.bytes.now a.tail.operands a.blocks.now a.tail.offset (axes a.tail) ≤ a.tail.machine.numbers.cache = omega arith in
    sym (cut_fits a.tail.machine.numbers a.tail.bytes.now a.tail.operands a.costs.now a.ranks a.tail.offset a.tail.rank a.blocks.now (omega arith) small)

pub returns-then-keeps_first : goal.returns-then-keeps_first
returns-then-keeps_first t c =
    let a = c.args in
    c.compute_blocks_at.ensures
    ∙ sym (cut_keeps a.tail.machine.numbers a.tail.bytes.now a.tail.operands a.costs.now a.ranks a.tail.offset a.tail.rank a.blocks.now (omega arith) (omega arith)
    (sym c.keeps_first.ensures ∙ c.if-keeps_first.true))

pub returns-then-tail-least_in : goal.returns-then-tail-least_in
unfolding least_byte
returns-then-tail-least_in t c =
    let a = c.args in
    c.set_ones.ensures
    ∙ sym (cut_flat a.tail.machine.numbers a.tail.bytes.now a.tail.operands a.costs.now a.ranks a.tail.offset a.tail.rank a.blocks.now (omega arith) (omega arith)
    (sym c.keeps_first.ensures ∙ c.if-keeps_first.false) (subst (λ (x : ℕ). a.tail.machine.numbers.cache < x) c.least_in.ensures c.if-tail-least_in.true))

pub returns : goal.returns
unfolding least_byte
returns t c =
    let a = c.args in
    c.shrink.ensures
    ∙ sym (cut_less a.tail.machine.numbers a.tail.bytes.now a.tail.operands a.costs.now a.ranks a.tail.offset a.tail.rank a.blocks.now (omega arith) (omega arith)
    (sym c.keeps_first.ensures ∙ c.if-keeps_first.false) (subst (λ (x : ℕ). x ≤ a.tail.machine.numbers.cache) c.least_in.ensures c.if-tail-least_in.false))
