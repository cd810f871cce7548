-- The invariants of `units::packed_strides_into`.
use mathlib.Core.Path.{◌≡◌}
use mathlib.Core.List.{map}
use Prim.Native.Nat.{◌^◌, ◌≤◌, min}
use lib.IntN.{pos}
use lib.ListN.{length, take}
use Rattle.strided.specs.Base.{padded}
use Rattle.strided.specs.Layout.{total}
use Rattle.numpy.specs.Units.{firsts}
use Rattle.numpy.proofs.units.packed_strides_into.Given as goal

abbrev pub invariant-loop-i : goal.invariant-loop-i
invariant-loop-i l =
    (l.i ≤ length l.extents) × (l.out ≡ padded 64 (pos 0) (take l.i (map pos (firsts 1 l.extents)))) × (l.step ≡ min (total (take l.i l.extents)) (2 ^ 63))
