-- How many blocks a walk has left, told by where it stands. A loop over stretches ends by it, and counts no blocks for that.
-- Assumes nothing.
use mathlib.Core.Path.{◌≡◌, sym, ap, ◌∙◌}
use mathlib.Core.Bool.{Bool, true, not}
use mathlib.Core.List.{List, map}
use Prim.Native.Nat.{ℕ, ◌-◌, ◌≤◌, ◌<◌}
use native.Mathlib.Omega.{arith}
use lib.IntN.{ℤ}
use Rattle.std.specs.Prelude.{Option}
use lib.ListN.{length, take, drop, length-map, length-take, length-drop}
use Rattle.strided.specs.Bulk.{next_blocks}
use Rattle.strided.specs.Memory.{walk_of}
use Rattle.strided.specs.Begin.{started}
use Rattle.strided.specs.Step.{walk_after}
use Rattle.strided.specs.declared.Plan.{Plan}
use Rattle.strided.specs.declared.Walk.{Walk}
use Rattle.laws.specs.Walk.Placed.{Placed, placed_of, placed_walk, placed_part}
use Rattle.advance.specs.declared.State.{State}
use Rattle.walker.specs.declared.way.Way.{Way}
use Rattle.walker.specs.declared.Next.{Next}
use Rattle.walker.specs.Way.{Strode}
use Rattle.walker.proofs.Walked.{Walking, walking_next, walking_less}

-- those of a walk from the starts zs
abbrev pub left_at : Plan → List ℤ → Bool → State → ℕ
left_at p zs more at = length (next_blocks (length (placed_walk p zs)) p (walk_of (not more) at.counters at.offsets))

-- behind n blocks they are the others
left_behind : {p : Plan} {zs : List ℤ} {y : Option Way} {w : List ℕ} {n : ℕ} {more : Bool} {at : State} → Walking p zs y w n more at
    → left_at p zs more at ≡ length (placed_walk p zs) - n
left_behind {p} {zs} {n = n} {more} {at} k =
    let W : List Placed = placed_walk p zs in
    let stands : walk_of (not more) at.counters at.offsets ≡ walk_after p n (started p zs) = k.walked.state ∙ ap (walk_after p n) k.begins in
    let all : map (placed_of p.operands) (next_blocks (length W) p (walk_of (not more) at.counters at.offsets)) ≡ take (length W) (drop n W) =
    ap (λ (u : Walk). map (placed_of p.operands) (next_blocks (length W) p u)) stands ∙ placed_part p zs k.ready (length W) n in
    let a = sym (length-map (next_blocks (length W) p (walk_of (not more) at.counters at.offsets)) (placed_of p.operands)) ∙ ap length all in
    let b = length-take (length W) (drop n W) in
    let d = length-drop n W in
    omega (arith, a, b, d)

-- so they are fewer behind a stretch
pub walking_fewer : {p : Plan} {zs : List ℤ} {y : Option Way} {w : List ℕ} {n : ℕ} {at : State} → Walking p zs y w n true at
    → {limit : ℕ} {r : Next} {first : List ℤ} {at' : State} → Strode y limit p w at r first at' → 1 ≤ limit → left_at p zs r.more at' < left_at p zs true at
walking_fewer k x h =
    let a = left_behind k in
    let b = left_behind (walking_next k x) in
    let l = walking_less k x h in
    omega (arith, a, b, l)
