-- Whole numbers as a u64 holds them, or too large: with these the terms of a weight are exact, and no step of them can wrap.
-- Assumes nothing.
use Rattle.std.specs.Prelude.{cond, ℕ, ◌^◌, ltb, Option, Some, None}

-- itself below 2^64
unfoldable pub checked : ℕ → Option ℕ
checked n = cond (ltb n (2 ^ 64)) (Some n) None
