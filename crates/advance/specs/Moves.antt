-- What a move along one axis makes of an offset.
-- Assumes nothing.
use Rattle.std.specs.Prelude.{ℕ, ◌+◌, ◌-◌, ◌*◌, ◌<◌, ◌^◌, ℤ, pos, nat_abs, ◌+ℤ◌, ◌*ℤ◌, length, get_or, List, ◌≡◌}
use Rattle.std.proofs.Math.IntN.{sub_ℕ}
use Rattle.std.specs.Int.{w64}
use Rattle.std.proofs.Common.{SFits}
use Rattle.strided.specs.declared.Plan.{Plan}
use Rattle.advance.specs.Filled.{filled_to}

-- the offset after a move along an axis of stride s
unfoldable pub after_move : ℤ → ℤ → ℕ → ℕ → ℤ
after_move o s from to = o +ℤ sub_ℕ to from *ℤ s

-- a move that no sum or product of the code leaves 64 bits by: the distance times the stride's size, and where it leads
pub record Moves (o s : ℤ) (from to : ℕ) : Type 0 where
  pub span : ((to - from) + (from - to)) * nat_abs s < 2 ^ 63
  pub lands : SFits w64 (after_move o s from to)

-- operand k's offset after a move along an axis; its strides stand at k * 64
abbrev pub moved_at : ℕ → ℕ → ℕ → List ℤ → List ℤ → ℕ → ℤ
moved_at axis from to s o k = after_move (get_or o k (pos 0)) (get_or s (k * 64 + axis) (pos 0)) from to

-- the offsets of the first n operands after a move along an axis; and of all of a plan's
abbrev pub shifted_to : ℕ → ℕ → ℕ → ℕ → List ℤ → List ℤ → List ℤ
shifted_to n axis from to s o = filled_to o (moved_at axis from to s o) n

abbrev pub shifted : Plan → ℕ → ℕ → ℕ → List ℤ → List ℤ
shifted p axis from to o = shifted_to p.operands axis from to p.strides o

-- such a move of the first n operands' offsets stays within 64 bits; and of all of a plan's
pub record ShiftsTo (n axis from to : ℕ) (s o : List ℤ) : Type 0 where
  pub inside : axis < 64
  pub offered : length o ≡ 8
  pub each : (k : ℕ) → k < n → Moves (get_or o k (pos 0)) (get_or s (k * 64 + axis) (pos 0)) from to

abbrev pub Shifts : Plan → ℕ → ℕ → ℕ → List ℤ → Type 0
Shifts p axis from to o = ShiftsTo p.operands axis from to p.strides o
