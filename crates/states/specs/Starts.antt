-- Row 9 told from the offsets at any counters, and what its code asks.
-- Assumes nothing.
use Rattle.std.specs.Prelude.{◌≡◌, Bool, false, List, ℕ, ◌≤◌, ◌<◌, ℤ, pos, ◌-ℤ◌, length, get_or}
use Rattle.strided.specs.Layout.{Within, has_zero, dot, reach, max_i}
use Rattle.strided.specs.Refusals.{leaves, some_operand, row6}
use Rattle.strided.specs.Begin.{plan_extents, plan_row}
use Rattle.strided.specs.declared.Plan.{Plan}

-- operand k's start, told from its offset at the counters c
abbrev pub start_at : Plan → List ℕ → List ℤ → ℕ → ℤ
start_at p c os k = get_or os k (pos 0) -ℤ dot c (plan_row p k)

-- some offset from that start leaves 64-bit signed
unfoldable pub leaves_at : Plan → List ℕ → List ℤ → ℕ → Bool
leaves_at p c os k = leaves (plan_extents p) (plan_row p k) (start_at p c os k)

-- row 9
unfoldable pub some_leave : Plan → List ℕ → List ℤ → Bool
some_leave p c os = some_operand (plan_extents p) (leaves_at p c os) p.operands

-- one operand's strides, at counters
pub record Placed (es : List ℕ) (ts : List ℤ) (c : List ℕ) : Type 0 where
  pub long : length ts ≡ length es
  pub within : Within es c
  pub near : reach es ts ≤ max_i

-- all operands of a plan
pub record Standing (p : Plan) (c : List ℕ) (os : List ℤ) : Type 0 where
  pub offsets : p.operands ≤ length os
  pub within : Within (plan_extents p) c
  pub near : (k : ℕ) → k < p.operands → reach (plan_extents p) (plan_row p k) ≤ max_i

-- the same where row 6 has passed, and the counters are within unless an extent is 0
pub record Begins (p : Plan) (c : List ℕ) (os : List ℤ) : Type 0 where
  pub offsets : p.operands ≤ length os
  pub within : has_zero (plan_extents p) ≡ false → Within (plan_extents p) c
  pub near : (row6 (plan_extents p) p.operands (plan_row p)).applies ≡ false
