-- `summary::run::pairs_behind` meets its contract: the loop keeps `Going`, two cells a turn. Assumes nothing.
use mathlib.Core.Path.{◌≡◌, refl, sym, ◌∙◌}
use Rattle.std.proofs.Common.{ap₂}
use Prim.Native.Nat.{◌+◌, ◌*◌, ◌<◌, ◌^◌}
use native.Mathlib.Omega.{arith}
use lib.IntN.{◌+ℤ◌}
use lib.ListN.{length}
use mir.Facts.{to_z-of_z}
use mir.Syntax.{w64}
use mir.Val.{to_z, of_z}
use Rattle.std.specs.Prelude.{Float}
use Rattle.summary.specs.Sums.{with_cell}
use Rattle.summary.proofs.Meeting.{in_fits, run_many, going_none, first_of_two_in, second_of_two_in, two_room, going_two}
use Rattle.summary.proofs.run.pairs_behind.Goals as goal

pub loop-k-init : goal.loop-k-init
loop-k-init c = rw (to_z-of_z {w = w64} c.ranges.last, to_z-of_z {w = w64} c.ranges.stride) (going_none c.requires)

pub moved-first-requires : goal.moved-first-requires
moved-first-requires c =
    let n = length c.args.cells.now in
    let room : n * 8 < 2 ^ 63 = omega arith in
    let more : c.loop-k._k * 2 + 1 < c.args.pairs * 2 = omega (arith, c.loop-k-test.true) in
    in_fits n (to_z w64 c.loop-k.o-bits +ℤ to_z w64 (of_z w64 c.args.stride)) (omega (arith, room)) (first_of_two_in c.loop-k.invariant more)

pub cell_at-x-requires : goal.cell_at-x-requires
cell_at-x-requires c =
    let more : c.loop-k._k * 2 + 1 < c.args.pairs * 2 = omega (arith, c.loop-k-test.true) in
    rw (to_z-of_z {w = w64} (record { sfits = c.moved-first.type_inv }), c.moved-first.ensures) (first_of_two_in c.loop-k.invariant more)

pub moved-o-requires : goal.moved-o-requires
moved-o-requires c =
    let n = length c.args.cells.now in
    let room : n * 8 < 2 ^ 63 = omega arith in
    let more : c.loop-k._k * 2 + 1 < c.args.pairs * 2 = omega (arith, c.loop-k-test.true) in
    let at = to_z-of_z {w = w64} (record { sfits = c.moved-first.type_inv }) ∙ c.moved-first.ensures in
    in_fits n (to_z w64 (of_z w64 c.moved-first.result) +ℤ to_z w64 (of_z w64 c.args.stride)) (omega (arith, room)) (second_of_two_in c.loop-k.invariant more at)

pub cell_at-y-requires : goal.cell_at-y-requires
cell_at-y-requires c =
    let more : c.loop-k._k * 2 + 1 < c.args.pairs * 2 = omega (arith, c.loop-k-test.true) in
    let at = to_z-of_z {w = w64} (record { sfits = c.moved-first.type_inv }) ∙ c.moved-first.ensures in
    rw (to_z-of_z {w = w64} (record { sfits = c.moved-o.type_inv }), c.moved-o.ensures) (second_of_two_in c.loop-k.invariant more at)

pub with_pair-t-requires : goal.with_pair-t-requires
with_pair-t-requires c =
    let more : c.loop-k._k * 2 + 1 < c.args.pairs * 2 = omega (arith, c.loop-k-test.true) in
    two_room c.loop-k.invariant more (to_z-of_z {w = w64} (record { sfits = c.moved-first.type_inv }) ∙ c.moved-first.ensures)

pub loop-k-preserved : goal.loop-k-preserved
loop-k-preserved c =
    let more : c.loop-k._k * 2 + 1 < c.args.pairs * 2 = omega (arith, c.loop-k-test.true) in
    let at = to_z-of_z {w = w64} (record { sfits = c.moved-first.type_inv }) ∙ c.moved-first.ensures in
    let at' = to_z-of_z {w = w64} (record { sfits = c.moved-o.type_inv }) ∙ c.moved-o.ensures in
    let i : c.loop-k._k * 2 + 1 + 1 ≡ (c.loop-k._k + 1) * 2 = omega arith in
    rw (sym i)
    (going_two c.loop-k.invariant more at at'
    (c.with_pair-t.ensures ∙ ap₂ (λ (x y : Float). with_cell (with_cell c.loop-k.t x) y) c.cell_at-x.ensures c.cell_at-y.ensures))

pub overflow_mul-result : goal.overflow_mul-result
overflow_mul-result c =
    let many = run_many (c.args.last +ℤ c.args.stride) c.args.stride (c.args.pairs * 2) in
    record { fits = omega (arith, c.requires.room, many) }

pub returns : goal.returns
returns c =
    let all : c.loop-k._k * 2 ≡ c.args.pairs * 2 = omega (arith, c.loop-k-test.false, c.loop-k.invariant.most) in
    let g = rw (to_z-of_z {w = w64} c.ranges.last, to_z-of_z {w = w64} c.ranges.stride, all) at c.loop-k.invariant in
    record { many = refl; makes = g.makes; ends = g.at }
