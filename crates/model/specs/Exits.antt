-- The exits that keep every axis whole, in the words of the code, and what cutting gives where there is none. Assumes nothing.
use Rattle.std.specs.Prelude.{Bool, ◌&&◌, ◌||◌, List, ℕ, suc, ◌-◌, ltb, leb, eqb, ℤ, length}
use Rattle.strided.specs.Base.{every}
use Rattle.strided.specs.Region.{byte_table, region}
use Rattle.strided.specs.Costs.{costs}
use Rattle.strided.specs.Cut.{plan_ranks, cutting}
use Rattle.strided.specs.Plan.{grows}
use Rattle.strided.specs.declared.Machine.{Machine}
use Rattle.laws.specs.Cut.Tables.{stride_size}

-- operand k has "a nonzero first stride and strictly growing stride sizes"
abbrev pub rises : List ℤ → ℕ → ℕ → Bool
rises strides k i = ltb (stride_size strides k i) (stride_size strides k (suc i))

unfoldable pub increasing : List ℤ → ℕ → ℕ → Bool
increasing strides rank k = ltb 0 (stride_size strides k 0) && every (rises strides k) 0 (rank - 1)

-- no cut whatever the extents
unfoldable pub in_order : List ℕ → List ℤ → ℕ → Bool
in_order sizes strides rank = eqb rank 0 || every (grows sizes strides rank) 0 (length sizes)

-- "No cut if rank is 0, the region is at most 32,768, or every operand has size above 0 .."
unfoldable pub exits : Machine → List ℕ → List ℕ → List ℕ → List ℤ → ℕ → Bool
exits mc bytes sizes es strides rank =
    eqb rank 0 || (leb (region mc bytes (length sizes) es 0 rank) mc.cache || every (grows sizes strides rank) 0 (length sizes))

-- what cutting gives: "Cutting looks at a tail of axes, at first all"
unfoldable pub ruled : Machine → List ℕ → List ℕ → List ℤ → ℕ → List ℕ
ruled mc sizes es strides rank =
    cutting mc (byte_table sizes strides) (length sizes) (costs strides (length sizes) rank) (plan_ranks sizes strides rank) 0 rank es
