-- "Fused axes": which axes join, which are dropped, and the axes of a plan. Axis 0 is first in every list.
-- Assumes nothing.
use Rattle.std.specs.Prelude.{Bool, true, false, cond, ◌&&◌, ◌||◌, List, [], ◌∷◌, ℕ, ◌*◌, ◌^◌, eqb, ltb, ℤ, pos, negsuc, ◌*ℤ◌}
use Rattle.strided.specs.Base.{unless}
use Rattle.strided.specs.Layout.{Axis, no_axis, axes_of, in_i64}
use Rattle.strided.specs.Order.{pick, fusing_order}
use Rattle.strided.specs.declared.Purpose.{Purpose}

-- a test for equality of two whole numbers
abbrev pub eq_z : ℤ → ℤ → Bool
eq_z (pos a) (pos b) = eqb a b
eq_z (pos a) (negsuc b) = false
eq_z (negsuc a) (pos b) = false
eq_z (negsuc a) (negsuc b) = eqb a b

-- "axis i joins i − 1 if for every operand both strides are 0, or stride i equals (present extent of i − 1) × stride of i − 1 with that
-- extent and product within isize": e is the present extent of i − 1, a its stride, b the stride of i
abbrev pub joins : ℕ → ℤ → ℤ → Bool
joins e a b = (eq_z a (pos 0) && eq_z b (pos 0)) || (ltb e (2 ^ 63) && (in_i64 (pos e *ℤ a) && eq_z b (pos e *ℤ a)))

abbrev pub all_join : ℕ → List ℤ → List ℤ → Bool
all_join e [] [] = true
all_join e [] (b ∷ bs) = false
all_join e (a ∷ xs) [] = false
all_join e (a ∷ xs) (b ∷ bs) = joins e a b && all_join e xs bs

-- "a product above 2^64 − 1 leaves both"
abbrev pub can_fuse : Axis → Axis → Bool
can_fuse a b = all_join a.extent a.strides b.strides && ltb (a.extent * b.extent) (2 ^ 64)

-- "The extents multiply and i becomes 1"
abbrev pub fuse_if : Bool → Axis → Axis → List Axis → List Axis
fuse_if c a b bs =
    cond c (record { extent = a.extent * b.extent; strides = a.strides } ∷ record { extent = 1; strides = b.strides } ∷ bs) (a ∷ b ∷ bs)

abbrev pub fuse_step : Axis → List Axis → List Axis
fuse_step a [] = a ∷ []
fuse_step a (b ∷ bs) = fuse_if (can_fuse a b) a b bs

-- "From the last axis down to axis 1"
abbrev pub fuse : List Axis → List Axis
fuse [] = []
fuse (a ∷ xs) = fuse_step a (fuse xs)

-- "Then axes of extent 1 go."
abbrev pub keep : List Axis → List Axis
keep [] = []
keep (a ∷ xs) = unless (eqb a.extent 1) a (keep xs)

-- "If none is left and rank was not 0, one axis of extent 1 stays with the first axis's strides."
abbrev pub or_first : List Axis → List Axis → List Axis
or_first [] [] = []
or_first [] (a ∷ xs) = record { extent = 1; strides = a.strides } ∷ []
or_first (k ∷ ks) xs = k ∷ ks

abbrev pub compress : List Axis → List Axis
compress xs = or_first (keep xs) xs

abbrev pub fused_axes : List Axis → List Axis
fused_axes xs = compress (fuse xs)

-- the axes of a layout's plan: put into the order they are fused in, fused, those of extent 1 dropped
unfoldable pub plan_axes : List ℕ → ℕ → List ℤ → Purpose → List Axis
plan_axes es operands ss u = fused_axes (pick no_axis (axes_of es operands ss) (fusing_order es operands ss u))
