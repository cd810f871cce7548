-- "The plan": when tiles are declined. Slabs that share no line gain nothing from tiles, so the flat walk stays.
-- Assumes nothing.
use Rattle.std.specs.Prelude.{Bool, true, cond, ◌&&◌, ◌||◌, List, [], ◌∷◌, ℕ, zero, suc, ◌+◌, ◌-◌, ◌*◌, ◌%◌, get_or, ltb, leb, eqb}
use Rattle.strided.specs.Base.{sum, every, seek}
use Rattle.strided.specs.Region.{byte_at}
use Rattle.strided.specs.declared.Machine.{Machine}

-- the first axis whose block is below its extent; the rank where there is none
unfoldable pub first_cut : List ℕ → List ℕ → ℕ → ℕ
first_cut es b rank = seek (λ i. ltb (get_or b i 0) (get_or es i 0)) 0 rank

-- the n axes from o on "by rising byte stride"
unfoldable pub insert_rising : (ℕ → ℕ) → ℕ → List ℕ → List ℕ
insert_rising f x [] = x ∷ []
insert_rising f x (y ∷ ys) = let behind = insert_rising f x ys in cond (leb (f y) (f x)) (y ∷ behind) (x ∷ y ∷ ys)

unfoldable pub rising : (ℕ → ℕ) → ℕ → ℕ → List ℕ
rising f o zero = []
rising f o (suc n) = insert_rising f (o + n) (rising f o n)

-- "each is a multiple of 64 and no less than the span so far, which grows from width by (extent − 1) × stride"
unfoldable pub apart : Machine → (ℕ → ℕ) → List ℕ → ℕ → List ℕ → Bool
apart mc f es span [] = true
apart mc f es span (i ∷ is) = eqb (f i % mc.line) 0 && (leb span (f i) && apart mc f es (span + (get_or es i 0 - 1) * f i) is)

-- "width = size + the sum of (extent − 1) × byte stride over axes before the cut, a multiple of 64"
unfoldable pub width_of : List ℕ → List ℕ → List ℕ → ℕ → ℕ → ℕ
width_of bytes sizes es cut k = get_or sizes k 0 + sum (λ i. (get_or es i 0 - 1) * byte_at bytes k i) 0 cut

-- "each operand of nonzero size passes"
unfoldable pub passes : Machine → List ℕ → List ℕ → List ℕ → ℕ → ℕ → ℕ → Bool
passes mc bytes sizes es cut rank k =
    eqb (get_or sizes k 0) 0
    || (eqb (width_of bytes sizes es cut k % mc.line) 0 && apart mc (byte_at bytes k) es (width_of bytes sizes es cut k) (rising (byte_at bytes k) cut (rank - cut)))

-- "if the first cut axis is not axis 0 and .."
unfoldable pub declined : Machine → List ℕ → List ℕ → ℕ → List ℕ → ℕ → List ℕ → Bool
declined mc bytes sizes operands es rank b =
    let cut = first_cut es b rank in
    ltb 0 cut && (ltb cut rank && every (passes mc bytes sizes es cut rank) 0 operands)
