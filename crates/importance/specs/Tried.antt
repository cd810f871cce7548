-- The form in which the functions that try widths and caps answer.
-- Assumes nothing.
use Rattle.std.specs.Prelude.{◌≡◌, ◌<◌, ◌^◌, Bool, true, false, cond, List, [], map, ℕ, leb, ℤ, length, get_or, Option, None, Some, unwrap_or}
use Rattle.strided.specs.Base.{padded, run, sum}
use Rattle.strided.specs.Weights.{addend}

-- whether a try gave weights, and its weights as an array, all 0 where it gave none
unfoldable pub there : Option (List ℕ) → Bool
there None = false
there (Some ws) = true

unfoldable pub laid : Option (List ℕ) → List ℕ
laid m = padded 64 0 (unwrap_or m [])

-- the weights as far as the first k operands add to them
module _ (es : List ℕ) (operands : ℕ) (ss : List ℤ) (lead width cap : ℕ) where
  unfoldable pub part_at : ℕ → ℕ → ℕ
  part_at k i = cond (leb (get_or es i 0) 1) 0 (sum (addend es operands ss lead width cap i) 0 k)

  unfoldable pub partly : ℕ → List ℕ
  partly k = padded 64 0 (map (part_at k) (run 0 (length es)))

  -- an array that holds them, each of which fits
  pub record Partly (k : ℕ) (ws : List ℕ) : Type 0 where
    pub are : ws ≡ partly k
    pub fit : (i : ℕ) → i < length es → part_at k i < 2 ^ 64
