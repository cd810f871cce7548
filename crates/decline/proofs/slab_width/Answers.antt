-- `decline::slab_width` meets its contract. The invariant: w is 1 and what the axes before i span. Row 6 leaves room for one axis more.
-- Assumes nothing.
use native.Mathlib.Omega.{arith}
use mathlib.Core.Path.{◌≡◌, ap, ◌∙◌}
use Prim.Native.Nat.{ℕ, ◌+◌, ◌≤◌, ◌^◌}
use Rattle.strided.specs.Base.{sum}
use Rattle.laws.specs.Base.Ranges.{sum-next}
use Rattle.laws.specs.Cut.Ranges.{sum_none}
use Rattle.laws.specs.Cut.Rising.{way_of}
use Rattle.laws.specs.Cut.Elements.{slab}
use Rattle.laws.specs.Cut.Tables.{stride_size}
use Rattle.decline.proofs.Rooms.{width_room}
use Rattle.decline.proofs.slab_width.Goals as goal

pub loop-i-init : goal.loop-i-init
loop-i-init c = let a = c.args in
    let e = sum_none (way_of (stride_size a.operand.axes.strides.now a.operand.k) a.operand.axes.extents.now) 0 in
    omega arith

pub way_at-w-requires : goal.way_at-w-requires
way_at-w-requires c =
    let room : let a = c.args in let l = c.loop-i in l.w + way_of (stride_size a.operand.axes.strides.now a.operand.k) a.operand.axes.extents.now l.i ≤ 2 ^ 63 = let a = c.args in
    let l = c.loop-i in
    width_room (stride_size a.operand.axes.strides.now a.operand.k) a.operand.axes.extents.now a.cut l.i l.w (omega arith) c.requires.1 l.invariant in
    omega (arith, room)

pub overflow_add-w : goal.overflow_add-w
overflow_add-w c =
    let room : let a = c.args in let l = c.loop-i in l.w + way_of (stride_size a.operand.axes.strides.now a.operand.k) a.operand.axes.extents.now l.i ≤ 2 ^ 63 = let a = c.args in
    let l = c.loop-i in
    width_room (stride_size a.operand.axes.strides.now a.operand.k) a.operand.axes.extents.now a.cut l.i l.w (omega arith) c.requires.1 l.invariant in
    omega (arith, room, c.way_at-w.ensures)

pub loop-i-preserved : goal.loop-i-preserved
loop-i-preserved c = let a = c.args in
    let l = c.loop-i in
    let way : ℕ → ℕ = way_of (stride_size a.operand.axes.strides.now a.operand.k) a.operand.axes.extents.now in
    omega (arith, sum-next way l.i, c.way_at-w.ensures, l.invariant)

pub returns : goal.returns
unfolding slab
returns c = let a = c.args in
    let l = c.loop-i in
    let e : l.i ≡ a.cut = omega arith in
    l.invariant ∙ ap (λ (i : ℕ). 1 + sum (way_of (stride_size a.operand.axes.strides.now a.operand.k) a.operand.axes.extents.now) 0 i) e
