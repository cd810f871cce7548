-- `finding::map_into` meets its contract. Assumes nothing.
use mathlib.Core.Path.{ap, ◌∙◌}
use Prim.Native.Nat.{ℕ}
use lib.ListN.{drop}
use Rattle.strided.specs.Step.{blank}
use Rattle.finding.proofs.Maps.{ordered, fused_made}
use Rattle.finding.proofs.map_into.Goals as goal

pub fusing_order_into-requires : goal.fusing_order_into-requires
fusing_order_into-requires c = record { zeros = (c.requires.1, c.requires.0) }

pub fused_into-requires : goal.fused_into-requires
fused_into-requires c =
    let l = c.args.layout in
    let t = ordered l.extents.now l.operands l.strides.now c.args.purpose l.fits c.fusing_order_into.ensures.order in
    let w = c.fusing_order_into.ensures.weights in
    record { order = t; out = ap (λ (n : ℕ). blank (drop n c.fusing_order_into.new.weights)) t.all ∙ w }

pub returns : goal.returns
returns c =
    let l = c.args.layout in
    fused_made l.extents.now l.operands l.strides.now c.args.purpose l.fits c.fusing_order_into.ensures.order c.fused_into.ensures
