-- Small copies, computed: a transpose, cells backwards, a zero extent, and what is refused, one row after the other.
-- Assumes nothing.
use Rattle.std.specs.Prelude.{◌≡◌, refl, List, [], ◌∷◌, ℕ, ℤ, pos, negsuc, Ok, Err, Result}
use Rattle.strided.specs.Base.{some_of}
use Rattle.strided.specs.Machine.{allowed, machine_of, fixed_four}
use Rattle.strided.specs.Mark.{some_index, shared, mark_of}
use Rattle.strided.specs.declared.Machine.{Machine}
use Rattle.strided.specs.declared.Refusal.{Refusal}
use Rattle.strided.specs.declared.Refusal.TheVariants.{StartCount, CopySizes, Buffer, Repeats, Record}
use Rattle.span.specs.Span.{outside}
use Rattle.cells.specs.Copy.{moved, copied}
use Rattle.export.specs.Export.{exported, copy_refused, copy_done}

-- a copy of cells of the bytes 1, 2, .. into a destination of zeros, and what is done
pub record Row : Type 0 where
  pub machine : Machine
  pub extents : List ℕ
  pub sizes : List ℕ
  pub strides : List ℤ
  pub starts : List ℤ
  pub old : List ℕ
  pub source : List ℕ
  pub done : Result (List ℕ) Refusal

abbrev Right : Row → Type 0
Right r = copy_done r.machine r.extents r.sizes r.strides r.starts r.old r.source ≡ r.done

abbrev All : List Row → Type 0
All [] = Unit {0}
All (r ∷ rs) = Right r × All rs

abbrev none6 : List ℕ
none6 = 0 ∷ 0 ∷ 0 ∷ 0 ∷ 0 ∷ 0 ∷ []

abbrev six : List ℕ
six = 1 ∷ 2 ∷ 3 ∷ 4 ∷ 5 ∷ 6 ∷ []

abbrev origin : List ℤ
origin = pos 0 ∷ pos 0 ∷ []

-- two by three cells, transposed
abbrev turned : List ℤ
turned = pos 1 ∷ pos 2 ∷ pos 3 ∷ pos 1 ∷ []

abbrev rows : List Row
rows =
    record { machine = fixed_four; extents = 2 ∷ 3 ∷ []; sizes = 1 ∷ 1 ∷ []; strides = turned; starts = origin; old = none6; source = six; done = Ok (1 ∷ 4 ∷ 2 ∷ 5 ∷ 3 ∷ 6 ∷ []) }
    -- three cells of two bytes, backwards
    ∷ record { machine = fixed_four; extents = 3 ∷ []; sizes = 2 ∷ 2 ∷ []; strides = negsuc 0 ∷ pos 1 ∷ []; starts = pos 2 ∷ pos 0 ∷ []; old = none6; source = six; done = Ok (5 ∷ 6 ∷ 3 ∷ 4 ∷ 1 ∷ 2 ∷ []) }
    -- every second byte; those between stay
    ∷ record { machine = fixed_four; extents = 3 ∷ []; sizes = 1 ∷ 1 ∷ []; strides = pos 2 ∷ pos 1 ∷ []; starts = pos 1 ∷ pos 0 ∷ []; old = none6; source = six; done = Ok (0 ∷ 1 ∷ 0 ∷ 2 ∷ 0 ∷ 3 ∷ []) }
    -- a zero extent, with starts outside
    ∷ record { machine = fixed_four; extents = 0 ∷ []; sizes = 1 ∷ 1 ∷ []; strides = pos 0 ∷ pos 1 ∷ []; starts = negsuc 8 ∷ pos 9 ∷ []; old = none6; source = six; done = Ok none6 }
    -- 24 before 8, at a zero extent too
    ∷ record { machine = machine_of 48 32768 4080 6; extents = 0 ∷ []; sizes = 1 ∷ 1 ∷ []; strides = pos 0 ∷ pos 1 ∷ []; starts = []; old = none6; source = six; done = Err Record }
    -- 8 before 16
    ∷ record { machine = fixed_four; extents = 2 ∷ 3 ∷ []; sizes = 1 ∷ 2 ∷ []; strides = turned; starts = pos 0 ∷ []; old = none6; source = six; done = Err StartCount }
    -- 16 before 17
    ∷ record { machine = fixed_four; extents = 2 ∷ 3 ∷ []; sizes = 17 ∷ 17 ∷ []; strides = turned; starts = origin; old = none6; source = six; done = Err CopySizes }
    -- the last byte of the last cell is outside; 17 before 18
    ∷ record { machine = fixed_four; extents = 3 ∷ []; sizes = 2 ∷ 2 ∷ []; strides = pos 1 ∷ pos 1 ∷ []; starts = origin; old = 0 ∷ 0 ∷ 0 ∷ 0 ∷ 0 ∷ []; source = six; done = Err Buffer }
    ∷ record { machine = fixed_four; extents = 2 ∷ []; sizes = 1 ∷ 1 ∷ []; strides = pos 0 ∷ pos 1 ∷ []; starts = negsuc 0 ∷ pos 0 ∷ []; old = none6; source = six; done = Err Buffer }
    -- two indices share a cell of the destination
    ∷ record { machine = fixed_four; extents = 2 ∷ []; sizes = 1 ∷ 1 ∷ []; strides = pos 0 ∷ pos 1 ∷ []; starts = origin; old = none6; source = six; done = Err Repeats }
    -- of the source they may
    ∷ record { machine = fixed_four; extents = 2 ∷ []; sizes = 1 ∷ 1 ∷ []; strides = pos 1 ∷ pos 0 ∷ []; starts = origin; old = none6; source = six; done = Ok (1 ∷ 1 ∷ 0 ∷ 0 ∷ 0 ∷ 0 ∷ []) }
    ∷ []

pub rows_right : All rows
unfolding copy_done copy_refused exported copied moved outside mark_of shared some_index some_of allowed
rows_right = (refl, (refl, (refl, (refl, (refl, (refl, (refl, (refl, (refl, (refl, (refl, tt)))))))))))
