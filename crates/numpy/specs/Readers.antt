-- What the inner functions answer: the readers of the lines and of the whole text, row 19 on numbers that stand in a text, and the two kinds of
-- description in our numbers.
-- Assumes nothing.
use Rattle.std.specs.Prelude.{◌≡◌, Bool, ◌||◌, List, [], ◌∷◌, ◌++◌, ℕ, ◌^◌, ◌≤◌, ◌-◌, min, max, eqb, ℤ, length, take, drop, replicate, Option, Some, None, Result, Ok, Err}
use Rattle.std.specs.Borrow.{Bor}
use Rattle.std.specs.List.{list_any, FoldsTo}
use Rattle.std.proofs.lemmas.List.Edits.{sets}
use Rattle.strided.specs.Digits.{digits_of, signed_of}
use Rattle.strided.specs.Text.{Each, FitU, FitI}
use Rattle.strided.specs.declared.Refusal.{Refusal}
use Rattle.reading.specs.Rows.{RowHere}
use Rattle.numpy.specs.Descriptions.{Description, head_line, shape_line, strides_part, written, StridesFit, InForm, NotInForm}
use Rattle.numpy.specs.Numpy.{packed, no_multiple, too_far, described}
use Rattle.numpy.specs.declared.Described.{Described}
use Rattle.numpy.specs.declared.lines.Said.{Said}
use Rattle.numpy.specs.declared.lines.Said.TheVariants.{Packed, Given}

-- a description out of its parts; with as many axes as the shape has
abbrev pub saying : ℕ → ℕ → List ℕ → Option (List ℤ) → Description
saying size rank es strides = record { size = size; rank = rank; shape = es; strides = strides }

abbrev pub said : ℕ → List ℕ → Option (List ℤ) → Description
said size es strides = saying size (length es) es strides

-- the text of numbers in NumPy's order and units, with its T line
unfoldable pub spelled : ℕ → List ℕ → List ℤ → List ℕ
spelled size es ts = written (said size es (Some ts))

-- ---- the N line

pub record HeadHere (t : List ℕ) (size rank : ℕ) (rest : List ℕ) : Type 0 where
  pub size_fits_lem : FitU size
  pub rank_fits : FitU rank
  pub form : t ≡ head_line size rank ++ rest

pub record ReadsHead (t : List ℕ) (r : Option (ℕ × ℕ × Bor (List ℕ))) : Type 0 where
  pub told : (size rank : ℕ) (rest : Bor (List ℕ)) → r ≡ Some (size, rank, rest) → HeadHere t size rank rest.now
  pub bad : r ≡ None → (size rank : ℕ) (rest : List ℕ) → HeadHere t size rank rest → ⊥

-- ---- a line of numbers behind a letter: the text from them on, and what is laid into an array from place 0 on

module _ {A : Type 0} (g : A → List ℕ) (Fits : A → Type 0) (letter : ℕ) where
  pub record LineHere (t : List ℕ) (rank : ℕ) (u rest : List ℕ) (vs : List A) : Type 0 where
    pub count : length vs ≡ rank
    pub begins : t ≡ letter ∷ u
    pub row : RowHere g Fits u vs rest

  pub record TakesLine (t : List ℕ) (rank : ℕ) (old new : List A) (r : Option (Bor (List ℕ) × Bor (List ℕ))) : Type 0 where
    pub there : (u rest : Bor (List ℕ)) → r ≡ Some (u, rest) → (vs : List A) × LineHere t rank u.now rest.now vs × (new ≡ sets old 0 vs)
    pub bad : r ≡ None → (vs : List A) (u rest : List ℕ) → length vs ≡ rank → t ≡ letter ∷ u → RowHere g Fits u vs rest → ⊥

-- ---- the lines behind N, and nothing behind them

pub record LinesHere (rank : ℕ) (t es : List ℕ) (strides : Option (List ℤ)) : Type 0 where
  pub axes : length es ≡ rank
  pub shape_fits : Each FitU es
  pub strides_fit : StridesFit rank strides
  pub form : t ≡ shape_line es ++ strides_part strides

-- numbers, and nothing behind them
abbrev pub Shape : List ℕ → List ℕ → Type 0
Shape t es = RowHere digits_of FitU t es []

abbrev pub Strides : List ℕ → List ℤ → Type 0
Strides t ts = RowHere signed_of FitI t ts []

pub record TakesLines (t : List ℕ) (size rank : ℕ) (shape shape' : List ℕ) (bytes bytes' : List ℤ) (r : Option Said) : Type 0 where
  pub packed : (z n : ℕ) (row : Bor (List ℕ)) → r ≡ Some (Packed z n row)
      → (es : List ℕ) × (size ≡ z) × (rank ≡ n) × LinesHere rank t es None × Shape row.now es × (shape' ≡ sets shape 0 es) × (bytes' ≡ bytes)
  pub given : (z n : ℕ) (row : Bor (List ℕ)) → r ≡ Some (Given z n row)
      → (es : List ℕ) × (ts : List ℤ) × (size ≡ z) × (rank ≡ n) × LinesHere rank t es (Some ts) × Strides row.now ts
      × (shape' ≡ sets shape 0 es) × (bytes' ≡ sets bytes 0 ts)
  pub unformed : r ≡ None → (es : List ℕ) (strides : Option (List ℤ)) → LinesHere rank t es strides → ⊥

-- ---- the whole text

pub record ReadsDescription (s shape shape' : List ℕ) (bytes bytes' : List ℤ) (r : Option Said) : Type 0 where
  pub packed : (size rank : ℕ) (row : Bor (List ℕ)) → r ≡ Some (Packed size rank row)
      → (es : List ℕ) × InForm s (saying size rank es None) × Shape row.now es × (shape' ≡ sets shape 0 es) × (bytes' ≡ bytes)
  pub given : (size rank : ℕ) (row : Bor (List ℕ)) → r ≡ Some (Given size rank row)
      → (es : List ℕ) × (ts : List ℤ) × InForm s (saying size rank es (Some ts)) × Strides row.now ts
      × (shape' ≡ sets shape 0 es) × (bytes' ≡ sets bytes 0 ts)
  pub unformed : r ≡ None → NotInForm s

-- ---- row 19 on numbers that stand in a text

-- what is answered of the `count` numbers in front
abbrev pub OfShape : List ℕ → ℕ → (List ℕ → Type 0) → Type 0
OfShape t count P = (vs rest : List ℕ) → length vs ≡ count → RowHere digits_of FitU t vs rest → P vs

abbrev pub OfStrides : List ℕ → ℕ → (List ℤ → Type 0) → Type 0
OfStrides t count P = (vs : List ℤ) (rest : List ℕ) → length vs ≡ count → RowHere signed_of FitI t vs rest → P vs

-- r is what answers that R tells of, one number after the other, make of `first`
module _ {A B : Type 0} (g : B → List ℕ) (Fits : B → Type 0) (R : A → B → A → Type 0) where
  abbrev pub Folds : List ℕ → ℕ → A → A → Type 0
  Folds t count first r = (vs : List B) (rest : List ℕ) → length vs ≡ count → RowHere g Fits t vs rest → FoldsTo R first vs r

-- the greatest of some numbers, 0 of none
abbrev pub most_of : List ℕ → ℕ
most_of [] = 0
most_of (x ∷ xs) = max x (most_of xs)

-- r is the greatest packed byte stride, as far as numbers below 2^63 tell
abbrev pub Peaked : ℕ → ℕ → List ℕ → Type 0
Peaked size r es = min r (2 ^ 63) ≡ min (most_of (packed size es)) (2 ^ 63)

abbrev pub Peaks : List ℕ → ℕ → ℕ → ℕ → Type 0
Peaks t count size r = OfShape t count (Peaked size r)

abbrev pub PackedWrong : List ℕ → ℕ → ℕ → Bool → Type 0
PackedWrong t count size r = OfShape t count (λ es. r ≡ (eqb size 0 || list_any too_far (packed size es)))

abbrev pub SomeNoMultiple : List ℕ → ℕ → ℕ → Bool → Type 0
SomeNoMultiple t count size r = OfStrides t count (λ ts. r ≡ list_any (no_multiple size) ts)

abbrev pub GivenWrong : List ℕ → ℕ → ℕ → Bool → Type 0
GivenWrong t count size r = OfStrides t count (λ ts. r ≡ (eqb size 0 || list_any (no_multiple size) ts))

-- ---- the two kinds of description, whose numbers are laid in arrays if they are at most 64

-- what is asked: numbers stand in front, and in the array
pub record ShapeAt (t : List ℕ) (rank : ℕ) (shape : List ℕ) : Type 0 where
  pub es : List ℕ
  pub count : length es ≡ rank
  pub row : Shape t es
  pub laid : rank ≤ 64 → take rank shape ≡ es

pub record StridesAt (t : List ℕ) (rank : ℕ) (bytes : List ℤ) : Type 0 where
  pub ts : List ℤ
  pub count : length ts ≡ rank
  pub row : Strides t ts
  pub laid : rank ≤ 64 → take rank bytes ≡ ts

-- and behind the rank, in the array, zeros
abbrev pub ZerosBehind : {A : Type 0} → A → ℕ → List A → Type 0
ZerosBehind z rank xs = rank ≤ 64 → drop rank xs ≡ replicate (64 - rank) z

abbrev pub FromPacked : List ℕ → ℕ → ℕ → List ℕ → Result Described Refusal → Type 0
FromPacked t size rank shape r = OfShape t rank (λ es. (rank ≤ 64 → take rank shape ≡ es) → r ≡ described (saying size rank es None))

abbrev pub FromGiven : List ℕ → ℕ → ℕ → List ℕ → List ℤ → Result Described Refusal → Type 0
FromGiven t size rank shape bytes r =
    OfStrides t rank (λ ts. (es : List ℕ) → length es ≡ rank → (rank ≤ 64 → take rank shape ≡ es) → (rank ≤ 64 → take rank bytes ≡ ts)
    → r ≡ described (saying size rank es (Some ts)))

-- size and rank, which are answered, with the arrays beside them
abbrev pub joined : Result (ℕ × ℕ) Refusal → List ℕ → List ℤ → Result Described Refusal
joined (Ok t) es ss = Ok (record { size = t.0; rank = t.1; extents = es; strides = ss })
joined (Err e) es ss = Err e
