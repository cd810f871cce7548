-- The invariants of `L1Sets::widen`.
use mathlib.Core.Path.{◌≡◌}
use Prim.Native.Nat.{ℕ, ◌-◌, ◌≤◌, ◌<◌}
use lib.ListN.{set}
use Rattle.l1.specs.Live.{load_by}
use Rattle.l1.proofs.L1Sets.widen.Given as goal

abbrev pub invariant-loop-lo : goal.invariant-loop-lo
invariant-loop-lo l = (1 ≤ l.lo) × (l.lo ≤ l.hi) × (l.hi ≤ l.whole)
    × (load_by l.self (set l.initial.blocks l.i l.lo) ≤ l.live)
    × ((x : ℕ) → l.hi < x → x ≤ l.whole → l.live < load_by l.self (set l.initial.blocks l.i x))
    × ((x : ℕ) → set l.blocks l.i x ≡ set l.initial.blocks l.i x)

abbrev pub decreases-loop-lo : goal.decreases-loop-lo
decreases-loop-lo l = l.hi - l.lo
