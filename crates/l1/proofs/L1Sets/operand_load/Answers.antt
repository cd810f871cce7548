-- `l1::L1Sets::operand_load` meets its contract. The invariant: m is the product of the blocks before i that bring lines into one set,
-- saturated. Assumes nothing.
use native.Mathlib.Omega.{arith}
use mathlib.Core.Path.{◌≡◌, sym, ap, ◌∙◌}
use Prim.Native.Nat.{ℕ, ◌*◌, min}
use native.Mathlib.Nat.{mul-one}
use lib.ListN.{get_or}
use Rattle.laws.specs.Cut.Saturate.{min-mul-left}
use Rattle.l1.proofs.Loads.{product_by_none, product_by_more}
use Rattle.l1.specs.Live.{top, product_by}
use Rattle.l1.proofs.L1Sets.operand_load.Goals as goal
use Rattle.l1.proofs.L1Sets.operand_load.Goals.{then-alias_at, else-alias_at}

-- a product that is saturated is cut off as the product itself
cut_off : (x : ℕ) {y r : ℕ} → y ≡ min x 18446744073709551615 → r ≡ min y top → r ≡ min x top
cut_off x h k = omega arith

pub loop-i-init : goal.loop-i-init
loop-i-init c = let a = c.args in c.from-m.ensures ∙ product_by_none a.live a.blocks.now

pub loop-i-preserved : goal.loop-i-preserved
loop-i-preserved c = let a = c.args in
    let i : ℕ = c.loop-i.i in
    let p : ℕ = product_by a.live a.blocks.now i in
    let b : ℕ = get_or a.blocks.now i 0 in
    let e = product_by_more a.live a.blocks.now i in
    elim c.if-alias_at.branch [
      | then-alias_at w ↦ rw (e, sym w.if-alias_at.ensures) (w.m-is ∙ cut_off (c.loop-i.m * b) w.saturating_mul.ensures w.min-m.ensures ∙ ap (λ (x : ℕ). min (x * b) top) c.loop-i.invariant ∙ min-mul-left p b top)
      | else-alias_at w ↦ rw (e, sym w.if-alias_at.ensures, mul-one) (w.m-is ∙ c.loop-i.invariant)
    ]

pub returns : goal.returns
returns c = let l = c.loop-i in
    let a = c.args in
    let e : l.i ≡ a.live.count = omega arith in
    l.invariant ∙ ap (λ (i : ℕ). min (product_by a.live a.blocks.now i) top) e
