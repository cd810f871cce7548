-- `decline::span_so_far` meets its contract. The invariant: s is the width and what those axes before j add that come before axis i. Row 6
-- leaves room for one axis more. Assumes nothing.
use native.Mathlib.Omega.{arith}
use mathlib.Core.Path.{◌≡◌, sym, ap, ◌∙◌}
use Prim.Native.Nat.{ℕ, ◌+◌, ◌≤◌, ◌^◌}
use Rattle.laws.specs.Cut.Tables.{stride_size}
use Rattle.laws.specs.Cut.Ranges.{sum_start, sum_step, cond_true, cond_false}
use Rattle.laws.specs.Cut.Rising.{before, way_of, adds}
use Rattle.decline.specs.Slabs.{span_to}
use Rattle.decline.proofs.Rooms.{tail-room}
use Rattle.decline.proofs.span_so_far.Goals as goal
use Rattle.decline.proofs.span_so_far.Goals.{then-comes_before, else-comes_before}

pub loop-j-init : goal.loop-j-init
loop-j-init c = let a = c.args in
    (omega (arith, sum_start (adds (stride_size a.slabs.operand.axes.strides.now a.slabs.operand.k) a.slabs.operand.axes.extents.now a.i) a.slabs.cut))

pub way_at-s-requires : goal.way_at-s-requires
way_at-s-requires c =
    -- the axis's way fits beside the span
    let room : let a = c.args in let l = c.loop-j in l.s + way_of (stride_size a.slabs.operand.axes.strides.now a.slabs.operand.k) a.slabs.operand.axes.extents.now l.j ≤ 2 ^ 63 = let l = c.loop-j in
    omega (arith, tail-room c.args.slabs.operand.axes c.args.slabs.operand.k c.args.slabs.cut c.args.slabs.width c.args.i l.j c.args.slabs.near l.auto.j (omega arith)) in
    (omega arith, omega (arith, room))

pub overflow_add-s : goal.overflow_add-s
overflow_add-s c =
    let room : let a = c.args in let l = c.loop-j in l.s + way_of (stride_size a.slabs.operand.axes.strides.now a.slabs.operand.k) a.slabs.operand.axes.extents.now l.j ≤ 2 ^ 63 = let l = c.loop-j in
    omega (arith, tail-room c.args.slabs.operand.axes c.args.slabs.operand.k c.args.slabs.cut c.args.slabs.width c.args.i l.j c.args.slabs.near l.auto.j (omega arith)) in
    omega (arith, room, c.way_at-s.ensures)

pub loop-j-preserved : goal.loop-j-preserved
loop-j-preserved c = let a = c.args in
    let l = c.loop-j in
    let f : ℕ → ℕ = stride_size a.slabs.operand.axes.strides.now a.slabs.operand.k in
    let st = sum_step (adds f a.slabs.operand.axes.extents.now a.i) a.slabs.cut l.j l.auto.j in
    let way : ℕ = way_of f a.slabs.operand.axes.extents.now l.j in
    let t = c.comes_before.ensures in
    elim c.if-comes_before.branch [
      | then-comes_before w ↦ (omega (arith, st, w.way_at-s.ensures, cond_true (before f a.i l.j) way 0 (sym t ∙ w.if-comes_before.true)))
      | else-comes_before w ↦ (omega (arith, st, cond_false (before f a.i l.j) way 0 (sym t ∙ w.if-comes_before.false)))
    ]

pub returns : goal.returns
returns c = let a = c.args in
    let l = c.loop-j in
    let e : l.j ≡ a.slabs.operand.axes.rank = omega arith in
    l.invariant ∙ ap (λ (j : ℕ). span_to j a.slabs.operand.axes a.slabs.operand.k a.slabs.cut a.slabs.width a.i) e
