-- "A layout is: extents (64-bit unsigned, one per axis), 1 to 8 operands, each with an element size in bytes (64-bit unsigned, zero
-- allowed) and one signed 64-bit stride per axis, in elements." And what is said of layouts everywhere: total, reach, index times stride.
-- Assumes nothing.
use Rattle.std.specs.Prelude.{Bool, true, false, cond, ◌&&◌, ◌||◌, List, [], ◌∷◌, ℕ, zero, suc, ◌+◌, ◌-◌, ◌*◌, ◌^◌, ◌<◌, ltb, eqb, ℤ, pos, nat_abs, ◌+ℤ◌, ◌*ℤ◌, length, get_or, take, drop, Option, None, Some}
use Rattle.std.specs.Int.Signed.{mag, non_neg}
use Rattle.strided.specs.declared.Purpose.{Purpose}
use Rattle.strided.specs.declared.Purpose.TheVariants.{Pointwise, PointwiseInto, Fold}

-- an axis: its extent, and a stride for each operand
pub record Axis : Type 0 where
  pub extent : ℕ
  pub strides : List ℤ

abbrev pub no_axis : Axis
no_axis = record { extent = 0; strides = [] }

-- operand k's strides, of the "one flat slice" with `rank` strides for each operand
abbrev pub stride_row : List ℤ → ℕ → ℕ → List ℤ
stride_row ss rank k = take rank (drop (k * rank) ss)

-- the strides of axis i at the operands k, k + 1, .., c of them
abbrev pub stride_column : List ℤ → ℕ → ℕ → ℕ → ℕ → List ℤ
stride_column ss rank i k zero = []
stride_column ss rank i k (suc c) = get_or ss (k * rank + i) (pos 0) ∷ stride_column ss rank i (suc k) c

-- the axes of a layout, from axis i on
abbrev pub axes_from : List ℤ → ℕ → ℕ → ℕ → List ℕ → List Axis
axes_from ss rank operands i [] = []
axes_from ss rank operands i (e ∷ es) = record { extent = e; strides = stride_column ss rank i 0 operands } ∷ axes_from ss rank operands (suc i) es

abbrev pub axes_of : List ℕ → ℕ → List ℤ → List Axis
axes_of es operands ss = axes_from ss (length es) operands 0 es

-- the extents of axes, and one operand's strides
abbrev pub extents : List Axis → List ℕ
extents [] = []
extents (a ∷ xs) = a.extent ∷ extents xs

abbrev pub row : ℕ → List Axis → List ℤ
row k [] = []
row k (a ∷ xs) = get_or a.strides k (pos 0) ∷ row k xs

-- "P (pointwise, with a chosen destination operand or none) or F (fold, with a chosen ordering operand)"
abbrev pub chosen : Purpose → Option ℕ
chosen Pointwise = None
chosen (PointwiseInto k) = Some k
chosen (Fold k) = Some k

-- "The chosen operand, or operand 0 if none, is the lead."
abbrev pub lead_of : Option ℕ → ℕ
lead_of None = 0
lead_of (Some k) = k

abbrev pub lead : Purpose → ℕ
lead u = lead_of (chosen u)

-- the total: the product of the extents
abbrev pub total : List ℕ → ℕ
total [] = 1
total (e ∷ es) = e * total es

-- some extent is 0; none is
abbrev pub has_zero : List ℕ → Bool
has_zero [] = false
has_zero (e ∷ es) = eqb e 0 || has_zero es

abbrev pub NoZero : List ℕ → Type 0
NoZero [] = Unit {0}
NoZero (e ∷ es) = (0 < e) × NoZero es

-- the index x lies within the extents: the claim and the test
abbrev pub Within : List ℕ → List ℕ → Type 0
Within [] [] = Unit {0}
Within [] (x ∷ xs) = ⊥
Within (e ∷ es) [] = ⊥
Within (e ∷ es) (x ∷ xs) = (x < e) × Within es xs

abbrev pub within : List ℕ → List ℕ → Bool
within [] [] = true
within [] (x ∷ xs) = false
within (e ∷ es) [] = false
within (e ∷ es) (x ∷ xs) = ltb x e && within es xs

-- the sum of index times stride
abbrev pub dot : List ℕ → List ℤ → ℤ
dot [] ts = pos 0
dot (x ∷ xs) [] = pos 0
dot (x ∷ xs) (t ∷ ts) = pos x *ℤ t +ℤ dot xs ts

-- "Reach is the sum of (extent − 1) × stride size."
abbrev pub reach : List ℕ → List ℤ → ℕ
reach [] ts = 0
reach (e ∷ es) [] = 0
reach (e ∷ es) (t ∷ ts) = (e - 1) * nat_abs t + reach es ts

-- the part of the reach that lies below the start, along the negative strides
abbrev pub reach_down : List ℕ → List ℤ → ℕ
reach_down [] ts = 0
reach_down (e ∷ es) [] = 0
reach_down (e ∷ es) (t ∷ ts) = cond (non_neg t) 0 ((e - 1) * nat_abs t) + reach_down es ts

-- "64-bit signed"; and the greatest unsigned and signed 64-bit numbers
abbrev pub in_i64 : ℤ → Bool
in_i64 z = ltb (mag z) (2 ^ 63)

abbrev pub max_u : ℕ
max_u = 2 ^ 64 - 1

abbrev pub max_i : ℕ
max_i = 2 ^ 63 - 1
