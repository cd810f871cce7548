-- `region::region_of` meets its contract. The invariant over the axes before i: C, the sum of the near parts, is exact up to the cap and has
-- room to grow, and M, the product of the far blocks, is saturated. Lines and product follow from both. Assumes nothing.
use native.Mathlib.Omega.{arith}
use mathlib.Core.Path.{◌≡◌, sym, ap, ap₂, ◌∙◌}
use mathlib.Core.List.{List}
use Prim.Native.Nat.{ℕ, ◌+◌, ◌-◌, ◌*◌, ◌≤◌, ◌<◌, min}
use native.Mathlib.Nat.{mul-one, add-zero, mul-le-mul}
use lib.ListN.{get_or}
use borrow.Author.Tests.{lt-ltb, le-ltb}
use Rattle.strided.specs.Base.{sum, product}
use Rattle.strided.specs.Region.{near, far, byte_at, region_of}
use Rattle.laws.specs.Cut.Ranges.{sum_start, sum_step, product_start, product-step}
use Rattle.laws.specs.Cut.Saturate.{cap, capped, min-mul-left, min-mul-right, lines_sat}
use Rattle.region.proofs.region_of.Goals as goal
use Rattle.region.proofs.region_of.Goals.{then-s-tail, else-s-tail}

-- one term more, each cut off or not
more : (C T c t r top : ℕ) → min c top ≡ min C top → min t top ≡ min T top → r ≡ c + t → min r top ≡ min (C + T) top
more C T c t r top p q e = omega arith

-- a near part is small: the stride is below a line, and the block is cut off
near_small : {s b : ℕ} → s < 256 → b ≤ 2097153 → s * b ≤ 536871168
near_small {s = s} {b = b} h k = let q : s ≤ 256 = omega arith in let p : s * b ≤ 256 * 2097153 = mul-le-mul q k in omega arith

pub loop-i-init : goal.loop-i-init
loop-i-init c =
    let a = c.args in
    (omega arith, capped _ (sym (sum_start _ _)), omega (arith, product_start (far a.tail.machine.numbers a.tail.bytes.now a.blocks.now a.k) a.tail.offset))

pub overflow_mul-c : goal.overflow_mul-c
overflow_mul-c c = omega (arith, near_small {s = c.from-s.result} {b = c.min.result} (omega arith) (omega arith))

pub overflow_add-c : goal.overflow_add-c
overflow_add-c c = omega (arith, near_small {s = c.from-s.result} {b = c.min.result} (omega arith) (omega arith))

pub loop-i-preserved : goal.loop-i-preserved
loop-i-preserved c = let a = c.args in
    let e = c.from-s.ensures in
    let mc = a.tail.machine.numbers in
    let top : ℕ = cap mc in
    let i : ℕ = c.loop-i.i in
    let bytes : List ℕ = a.tail.bytes.now in
    let blocks : List ℕ = a.blocks.now in
    let s : ℕ = byte_at bytes a.k i in
    let b : ℕ = get_or blocks i 0 in
    let C : ℕ = sum (near mc bytes blocks a.k) a.tail.offset (i - a.tail.offset) in
    let M : ℕ = product (far mc bytes blocks a.k) a.tail.offset (i - a.tail.offset) in
    let ss = sum_step (near mc bytes blocks a.k) a.tail.offset i c.loop-i.auto.i in
    let ps = product-step (far mc bytes blocks a.k) a.tail.offset i c.loop-i.auto.i in
    elim c.if-s-tail.branch [
      | then-s-tail w ↦
          let t : c.from-s.result * w.min.result ≡ s * min (b - 1) top = ap₂ (λ (x y : ℕ). x * y) e (w.min.ensures ∙ capped top w.saturating_sub.ensures) in (
            omega (arith, w.c-is, near_small {s = c.from-s.result} {b = w.min.result} (omega arith) (omega arith)),
            rw (ss, lt-ltb s mc.line (omega (arith, e, w.if-s-tail.true))) (more C (s * (b - 1)) c.loop-i.c _ _ top c.loop-i.invariant.1 (capped top t ∙ min-mul-right s (b - 1) top) w.c-is),
            rw (ps, lt-ltb s mc.line (omega (arith, e, w.if-s-tail.true)), mul-one) (w.m-is ∙ c.loop-i.invariant.2),
          )
      | else-s-tail w ↦
          let t : w.min-m.result ≡ min (c.loop-i.m * b) top =
          w.min-m.ensures ∙ ap (λ (x : ℕ). min (c.loop-i.m * x) top) w.min-else-s-tail.ensures ∙ min-mul-right c.loop-i.m b top in (
            omega (arith, w.c-is),
            rw (ss, le-ltb s mc.line (omega (arith, e, w.if-s-tail.false)), add-zero) (capped top w.c-is ∙ c.loop-i.invariant.1),
            rw (ps, le-ltb s mc.line (omega (arith, e, w.if-s-tail.false))) (w.m-is ∙ t ∙ ap (λ (x : ℕ). min (x * b) top) c.loop-i.invariant.2 ∙ min-mul-left M b top),
          )
    ]

pub returns : goal.returns
unfolding region_of
returns c = let l = c.loop-i in
    let a = c.args in
    let mc = a.tail.machine.numbers in
    let bytes : List ℕ = a.tail.bytes.now in
    let blocks : List ℕ = a.blocks.now in
    let C : ℕ = sum (near mc bytes blocks a.k) a.tail.offset (l.i - a.tail.offset) in
    let M : ℕ = product (far mc bytes blocks a.k) a.tail.offset (l.i - a.tail.offset) in
    let e : l.i ≡ a.tail.rank = omega arith in
    let t : c.min-3.result ≡ min (l.m * c.whole_lines.result) (cap mc) = c.min-3.ensures in
    lines_sat mc.line (cap mc) c.min-2.result C l.m M c.min-3.result (omega arith) (c.min-2.ensures ∙ l.invariant.1) l.invariant.2
    (t ∙ ap (λ (x : ℕ). min (l.m * x) (cap mc)) c.whole_lines.ensures)
    ∙ ap (λ (i : ℕ). min (region_of mc bytes blocks a.tail.offset (i - a.tail.offset) a.k) (cap mc)) e
