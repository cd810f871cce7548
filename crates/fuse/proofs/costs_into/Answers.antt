-- `fuse::costs_into` meets its contract. The invariant: the first i costs are stored. Assumes nothing.
use mathlib.Core.Path.{◌≡◌, sym, ap, ap₂, ◌∙◌}
use mathlib.Core.List.{List}
use Prim.Native.Nat.{ℕ}
use native.Mathlib.Omega.{arith}
use lib.ListN.{length, get_or, set}
use lib.Seq.{take_all}
use Rattle.strided.specs.Base.{padded}
use Rattle.strided.specs.Costs.{cost_of, cost_number, costs}
use Rattle.laws.specs.Base.Filling.{fill_none}
use Rattle.laws.specs.Base.Stores.{fill_first}
use Rattle.laws.specs.Cut.Tables.{cost_at}
use Rattle.fuse.specs.Sizes.{size_at}
use Rattle.fuse.proofs.Costing.{length-costs}
use Rattle.fuse.proofs.costs_into.Goals as goal

pub loop-i-init : goal.loop-i-init
loop-i-init c = (omega arith, c.requires.zeros ∙ fill_none 64 0)

pub loop-i-preserved : goal.loop-i-preserved
loop-i-preserved c =
    let r = c.args.rows in
    let i = c.loop-i.i in
    let C : List ℕ = costs r.strides.now r.operands c.args.rank in
    let long : length C ≡ c.args.rank = length-costs r.strides.now r.operands c.args.rank in
    let e : c.cost_at.result ≡ get_or C i 0 =
    c.cost_at.ensures ∙ ap (λ (p : ℕ). cost_number (cost_of (size_at r.strides.now p i) r.operands)) c.requires.pitch
    ∙ sym (cost_at r.strides.now r.operands c.args.rank i c.loop-i-test.true) in (
      omega (arith, c.loop-i-test),
      ap₂ (λ (o : List ℕ) (v : ℕ). set o i v) c.loop-i.invariant.1 e ∙ fill_first 0 64 C i (omega (arith, c.requires.rank, long)) (omega (arith, c.loop-i-test, long)),
    )

pub returns : goal.returns
returns c =
    let r = c.args.rows in
    let long : length (costs r.strides.now r.operands c.args.rank) ≡ c.args.rank = length-costs r.strides.now r.operands c.args.rank in
    c.loop-i.invariant.1 ∙ ap (padded 64 0) (take_all c.loop-i.i (costs r.strides.now r.operands c.args.rank) (omega (arith, c.loop-i-test, long)))
