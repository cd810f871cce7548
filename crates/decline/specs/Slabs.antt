-- An operand's slabs at a cut, in elements: when no two of them share a line. That this is what `passes` says in bytes is a law (proofs,
-- Passes). Operand k's slabs at the cut are w elements wide. Assumes nothing.
use Rattle.std.specs.Prelude.{Bool, ◌&&◌, ◌||◌, ℕ, ◌+◌, ◌-◌, eqb, get_or}
use Rattle.strided.specs.Base.{sum, every}
use Rattle.strided.specs.declared.Machine.{Machine}
use Rattle.laws.specs.Cut.Rising.{adds}
use Rattle.laws.specs.Cut.Elements.{whole_lines, slab, separates}
use Rattle.laws.specs.Cut.Tables.{stride_size}
use Rattle.region.specs.declared.tail.Axes.{Axes}

-- the span at axis i's turn: the width, and what those of the axes from the cut to j add that come before axis i
abbrev pub span_to : ℕ → Axes → ℕ → ℕ → ℕ → ℕ → ℕ
span_to j a k cut w i = w + sum (adds (stride_size a.strides.now k) a.extents.now i) cut (j - cut)

-- axis i keeps the slabs apart; all axes from the cut to j do
abbrev pub apart_at : Machine → Axes → ℕ → ℕ → ℕ → ℕ → Bool
apart_at mc a k cut w = separates mc (get_or a.sizes.now k 0) (stride_size a.strides.now k) a.extents.now cut (a.rank - cut) w

abbrev pub apart_to : ℕ → Machine → Axes → ℕ → ℕ → ℕ → Bool
apart_to j mc a k cut w = every (apart_at mc a k cut w) cut (j - cut)

abbrev pub share_none : Machine → Axes → ℕ → ℕ → ℕ → Bool
share_none mc a k cut w =
    eqb (get_or a.sizes.now k 0) 0 || (whole_lines mc (get_or a.sizes.now k 0) w && apart_to a.rank mc a k cut w)

-- those at a cut, whose width is what the axes before it span
abbrev pub clear_at : Machine → Axes → ℕ → ℕ → Bool
clear_at mc a cut k = share_none mc a k cut (slab (stride_size a.strides.now k) a.extents.now cut)
