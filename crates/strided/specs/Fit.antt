-- "The plan": the L1 fit of two operands. Lines whose addresses differ by a multiple of the way share a set; more of them than the set can
-- hold at once drive each other out. The record's line, way and live stand for document 01's 64, 4,096 and 6.
-- Assumes nothing.
use Rattle.std.specs.Prelude.{ℕ, zero, suc, ◌%◌, Bool, cond, ◌&&◌, ◌||◌, not, List, get_or, set, ltb, leb, eqb}
use Rattle.strided.specs.Base.{sum, product, seek, greatest}
use Rattle.strided.specs.Region.{byte_at}
use Rattle.strided.specs.declared.Machine.{Machine}

-- "its first axis with byte stride below 64"; the rank where there is none
unfoldable pub reuse : Machine → List ℕ → ℕ → ℕ → ℕ
reuse mc bytes rank k = seek (λ i. ltb (byte_at bytes k i) mc.line) 0 rank

-- "An operand counts if its size is not 0 and its first axis with byte stride below 64 exists and is not axis 0"
unfoldable pub counts : Machine → List ℕ → List ℕ → ℕ → ℕ → Bool
counts mc bytes sizes rank k = not (eqb (get_or sizes k 0) 0) && (ltb 0 (reuse mc bytes rank k) && ltb (reuse mc bytes rank k) rank)

-- "whose byte stride is a nonzero multiple of 4,096"
abbrev pub aliases : Machine → ℕ → Bool
aliases mc s = not (eqb s 0) && eqb (s % mc.way) 0

-- "it contributes the product of blocks of axes before that one whose byte stride is .."
abbrev pub factor : Machine → List ℕ → List ℕ → ℕ → ℕ → ℕ
factor mc bytes b k i = cond (aliases mc (byte_at bytes k i)) (get_or b i 0) 1

unfoldable pub load_of : Machine → List ℕ → List ℕ → ℕ → List ℕ → ℕ → ℕ
load_of mc bytes sizes rank b k = cond (counts mc bytes sizes rank k) (product (factor mc bytes b k) 0 (reuse mc bytes rank k)) 0

-- "Load is the sum."
unfoldable pub load : Machine → List ℕ → List ℕ → ℕ → List ℕ → ℕ
load mc bytes sizes rank b = sum (load_of mc bytes sizes rank b) 0 2

-- axis i enters the product of operand k
unfoldable pub enters_of : Machine → List ℕ → List ℕ → ℕ → ℕ → ℕ → Bool
enters_of mc bytes sizes rank i k = counts mc bytes sizes rank k && (ltb i (reuse mc bytes rank k) && aliases mc (byte_at bytes k i))

unfoldable pub enters : Machine → List ℕ → List ℕ → ℕ → ℕ → Bool
enters mc bytes sizes rank i = enters_of mc bytes sizes rank i 0 || enters_of mc bytes sizes rank i 1

-- "skip an axis where the chosen stride is 0, which enters no product, or whose block is 1"; chosen_size i: the size of the chosen stride on axis i
unfoldable pub shortens : Machine → List ℕ → List ℕ → ℕ → (ℕ → ℕ) → List ℕ → ℕ → Bool
shortens mc bytes sizes rank chosen_size b i = not (eqb (chosen_size i) 0) && (enters mc bytes sizes rank i && ltb 1 (get_or b i 0))

-- "the greatest block with load at most 6"
unfoldable pub most_of : Machine → List ℕ → List ℕ → ℕ → List ℕ → ℕ → ℕ
most_of mc bytes sizes rank b i = greatest (λ x. leb (load mc bytes sizes rank (set b i x)) mc.live) (get_or b i 0)

-- "from the outermost axis: .. if block 1 still leaves load above 6, set 1 and go on; else set the greatest block with load at most 6 and end"
unfoldable pub fit_from : Machine → List ℕ → List ℕ → ℕ → (ℕ → ℕ) → ℕ → List ℕ → List ℕ
fit_from mc bytes sizes rank chosen_size zero b = b
fit_from mc bytes sizes rank chosen_size (suc n) b =
    let skipped = fit_from mc bytes sizes rank chosen_size n b in
    let on = fit_from mc bytes sizes rank chosen_size n (set b n 1) in
    let last = set b n (most_of mc bytes sizes rank b n) in
    cond (shortens mc bytes sizes rank chosen_size b n) (cond (ltb mc.live (load mc bytes sizes rank (set b n 1))) on last) skipped

-- "If load is above 6"
unfoldable pub fitted : Machine → List ℕ → List ℕ → ℕ → (ℕ → ℕ) → List ℕ → List ℕ
fitted mc bytes sizes rank chosen_size b =
    let out = fit_from mc bytes sizes rank chosen_size rank b in
    cond (ltb mc.live (load mc bytes sizes rank b)) out b
