-- Visits computed: the numbers of small plans' blocks, at ranks 0, 2 and 9, and the order in which a visit's rows are told.
-- Assumes nothing.
use Rattle.std.specs.Prelude.{◌≡◌, refl, List, [], ◌∷◌, ◌++◌, ℕ, ℤ}
use Rattle.strided.specs.Refusals.{number}
use Rattle.strided.specs.Rows.{numbers}
use Rattle.strided.specs.Walk.{cut_axes}
use Rattle.strided.specs.declared.Purpose.{Purpose}
use Rattle.strided.specs.declared.Refusal.TheVariants.{State, Index}
use Rattle.views.specs.Number.{block_number}
use Rattle.views.specs.Visits.{visit_rows}

-- a row: extents, block sizes, counters of a block, and its number
pub record Figure : Type 0 where
  pub es : List ℕ
  pub bs : List ℕ
  pub c : List ℕ
  pub want : ℕ

abbrev pub figures : List Figure
figures =
    record { es = []; bs = []; c = []; want = 0 }
    ∷ record { es = 5 ∷ []; bs = 2 ∷ []; c = 4 ∷ []; want = 2 }
    -- document 01's 3,3 in blocks 2,2: offsets 0,10,2,12,20,22 at strides 1,10
    ∷ record { es = 3 ∷ 3 ∷ []; bs = 2 ∷ 2 ∷ []; c = 0 ∷ 1 ∷ []; want = 1 }
    ∷ record { es = 3 ∷ 3 ∷ []; bs = 2 ∷ 2 ∷ []; c = 2 ∷ 0 ∷ []; want = 2 }
    ∷ record { es = 3 ∷ 3 ∷ []; bs = 2 ∷ 2 ∷ []; c = 2 ∷ 2 ∷ []; want = 5 }
    -- the same with seven axes of 1 behind, rank 9: 0,2,10,12,20,22
    ∷ record { es = 3 ∷ 3 ∷ 1 ∷ 1 ∷ 1 ∷ 1 ∷ 1 ∷ 1 ∷ 1 ∷ []; bs = 2 ∷ 2 ∷ []; c = 0 ∷ 1 ∷ 0 ∷ 0 ∷ 0 ∷ 0 ∷ 0 ∷ 0 ∷ 0 ∷ []; want = 2 }
    ∷ record { es = 3 ∷ 3 ∷ 1 ∷ 1 ∷ 1 ∷ 1 ∷ 1 ∷ 1 ∷ 1 ∷ []; bs = 2 ∷ 2 ∷ []; c = 2 ∷ 0 ∷ 0 ∷ 0 ∷ 0 ∷ 0 ∷ 0 ∷ 0 ∷ 0 ∷ []; want = 1 }
    ∷ []

abbrev pub Right : List Figure → Type 0
Right [] = Unit {0}
Right (f ∷ fs) = (block_number (cut_axes f.es f.bs) f.c ≡ f.want) × Right fs

pub all_right : Right figures
unfolding block_number
all_right = (refl, (refl, (refl, (refl, (refl, (refl, (refl, tt)))))))

-- "the least number wins", over the layout's counts and the plan's; then 10 of the state and 11 of the index
pub visit_rows_lem : (es sizes : List ℕ) (ss : List ℤ) (u : Purpose) (rank operands : ℕ)
    → numbers (visit_rows es sizes ss u rank operands) ++ (number State ∷ number Index ∷ []) ≡ 1 ∷ 1 ∷ 2 ∷ 2 ∷ 3 ∷ 4 ∷ 5 ∷ 6 ∷ 10 ∷ 11 ∷ []
visit_rows_lem es sizes ss u rank operands = refl
