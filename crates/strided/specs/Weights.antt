-- "Axis ranks and loop order": the weights of the axes, by the first try whose numbers fit 64 bits.
-- Assumes nothing.
use Rattle.std.specs.Prelude.{Bool, cond, ◌&&◌, ◌||◌, List, [], map, ℕ, zero, suc, ◌+◌, ◌-◌, ◌*◌, ◌^◌, min, ltb, leb, eqb, ℤ, pos, nat_abs, length, get_or, Option, None, Some, unwrap_or}
use Rattle.std.specs.Int.Count.{count_leading_zeros}
use Rattle.strided.specs.Base.{run, sum, every, first}
use Rattle.strided.specs.Layout.{stride_row}
use Rattle.strided.specs.Ranks.{rank_of}

-- "g is 64 less the leading zeros of operands + 1". It is the packing width
unfoldable pub packing_width : ℕ → ℕ
packing_width operands = 64 - count_leading_zeros 64 (operands + 1)

-- "For a width and a cap, level is the lesser of (axes − rank) and the cap, and the term is 1 shifted left by width times level"
unfoldable pub shift_of : ℕ → ℕ → ℕ → ℕ → ℕ
shift_of axes rank width cap = width * min (axes - rank) cap

unfoldable pub term_of : ℕ → ℕ → ℕ → ℕ → ℕ
term_of axes rank width cap = 2 ^ shift_of axes rank width cap

-- the layout: its extents, the number of operands, the flat strides, and the lead
module _ (es : List ℕ) (operands : ℕ) (ss : List ℤ) (lead : ℕ) where
  -- the size of operand k's stride on axis i, and the rank of axis i within operand k
  unfoldable pub size_at : ℕ → ℕ → ℕ
  size_at i k = nat_abs (get_or (stride_row ss (length es) k) i (pos 0))

  unfoldable pub rank_in : ℕ → ℕ → ℕ
  rank_in i k = rank_of (stride_row ss (length es) k) (size_at i k)

  -- what operand k adds to the weight of axis i: "the lead's term × 2^(width + 1) if the lead's stride there is nonzero, plus the term of
  -- every other operand whose stride there is nonzero"
  unfoldable pub addend : ℕ → ℕ → ℕ → ℕ → ℕ
  addend width cap i k =
      cond (eqb (size_at i k) 0) 0 (term_of (length es) (rank_in i k) width cap * cond (eqb k lead) (2 ^ (width + 1)) 1)

  -- "Weight of an axis: 0 if its extent is at most 1; else" the sum of these
  unfoldable pub weight_at : ℕ → ℕ → ℕ → ℕ
  weight_at width cap i = cond (leb (get_or es i 0) 1) 0 (sum (addend width cap i) 0 operands)

  -- "in the terms that enter a weight, every shift is below 64 and every product and sum is below 2^64": operand k's shift and product at
  -- axis i, if its stride there is nonzero, and the sums up to it
  unfoldable pub term_fits : ℕ → ℕ → ℕ → ℕ → Bool
  term_fits width cap i k =
      eqb (size_at i k) 0 || (ltb (shift_of (length es) (rank_in i k) width cap) 64 && ltb (addend width cap i k) (2 ^ 64))

  unfoldable pub sum_fits : ℕ → ℕ → ℕ → ℕ → Bool
  sum_fits width cap i k = ltb (sum (addend width cap i) 0 (suc k)) (2 ^ 64)

  unfoldable pub axis_fits : ℕ → ℕ → ℕ → Bool
  axis_fits width cap i =
      leb (get_or es i 0) 1 || (every (term_fits width cap i) 0 operands && every (sum_fits width cap i) 0 operands)

  -- one try: the weights, if all its numbers fit
  unfoldable pub try : ℕ → ℕ → Option (List ℕ)
  try width cap = cond (every (axis_fits width cap) 0 (length es)) (Some (map (weight_at width cap) (run 0 (length es)))) None

  -- "then width 1 with caps 63 down to 1"
  unfoldable pub cap_tries : ℕ → Option (List ℕ)
  cap_tries zero = None
  cap_tries (suc n) = first (try 1 (suc n)) (cap_tries n)

  -- "Try widths g down to 1 without a cap": the cap `axes` cuts no level
  unfoldable pub width_tries : ℕ → Option (List ℕ)
  width_tries zero = cap_tries 63
  width_tries (suc n) = first (try (suc n) (length es)) (width_tries n)

  -- "The first try where .. gives the weights. With at most 8 operands one always does": the empty list is never met (crate laws)
  unfoldable pub weights : List ℕ
  weights = unwrap_or (width_tries (packing_width operands)) []
