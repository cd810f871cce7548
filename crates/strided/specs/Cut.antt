-- "The plan": cutting. "Cutting looks at a tail of axes, at first all": the n axes from o on. The record's cache stands for document 01's
-- 32,768.
-- Assumes nothing.
use Rattle.std.specs.Prelude.{Bool, cond, ◌&&◌, List, [], ◌∷◌, ℕ, zero, suc, ◌+◌, ◌-◌, ◌*◌, ◌/◌, get_or, set, take, drop, replicate, ltb, leb, eqb, ℤ, Option, None, Some}
use Rattle.strided.specs.Base.{sum, least, every, until}
use Rattle.strided.specs.Ranks.{ranks}
use Rattle.strided.specs.Region.{byte_at, region}
use Rattle.strided.specs.declared.Machine.{Machine}

-- "Score is (block − 1) × cost over blocks above 1; the last wins ties."
abbrev pub score : List ℕ → List ℕ → ℕ → ℕ
score b costs i = (get_or b i 0 - 1) * get_or costs i 0

abbrev pub later : (ℕ → ℕ) → ℕ → Option ℕ → Option ℕ
later s i None = Some i
later s i (Some j) = cond (ltb (s i) (s j)) (Some j) (Some i)

-- "and cutting shall choose among the others": an axis is weighed if it has a cost and its block is above 1
abbrev pub weighed : List ℕ → List ℕ → ℕ → Bool
weighed b costs i = ltb 1 (get_or b i 0) && ltb 0 (get_or costs i 0)

unfoldable pub greatest_score : List ℕ → List ℕ → ℕ → ℕ → Option ℕ
greatest_score b costs o zero = None
greatest_score b costs o (suc n) =
    let before = greatest_score b costs o n in
    cond (weighed b costs (o + n)) (later (score b costs) (o + n) before) before

abbrev pub shorten : (ℕ → ℕ) → List ℕ → Option ℕ → Option (List ℕ)
shorten f b None = None
shorten f b (Some i) = Some (set b i (f (get_or b i 0)))

-- "halving stops below twice the cache": "while the region is at least 65,536, halve (rounding up) the block with the greatest score"
unfoldable pub halving : Machine → List ℕ → ℕ → List ℕ → ℕ → ℕ → List ℕ → Option (List ℕ)
halving mc bytes operands costs o n b =
    cond (leb (2 * mc.cache) (region mc bytes operands b o n)) (shorten (λ x. (x + 1) / 2) b (greatest_score b costs o n)) None

-- "then while it is above 32,768 take 1 off the one with the greatest score, sought anew each time"
unfoldable pub lessening : Machine → List ℕ → ℕ → List ℕ → ℕ → ℕ → List ℕ → Option (List ℕ)
lessening mc bytes operands costs o n b =
    cond (ltb mc.cache (region mc bytes operands b o n)) (shorten (λ x. x - 1) b (greatest_score b costs o n)) None

-- there are never more such steps than the blocks sum to (crate laws)
abbrev pub cells : ℕ → ℕ → List ℕ → ℕ
cells o n b = sum (λ i. get_or b i 0) o n

unfoldable pub halved : Machine → List ℕ → ℕ → List ℕ → ℕ → ℕ → List ℕ → List ℕ
halved mc bytes operands costs o n b = until (halving mc bytes operands costs o n) (cells o n b) b

unfoldable pub lessened : Machine → List ℕ → ℕ → List ℕ → ℕ → ℕ → List ℕ → List ℕ
lessened mc bytes operands costs o n b = until (lessening mc bytes operands costs o n) (cells o n b) b

unfoldable pub shrunk : Machine → List ℕ → ℕ → List ℕ → ℕ → ℕ → List ℕ → List ℕ
shrunk mc bytes operands costs o n b = lessened mc bytes operands costs o n (halved mc bytes operands costs o n b)

-- "ranks are those of the plan's axes, taken once over all of them and not afresh (an operand of size 0 has ranks all 1)"
abbrev pub plan_ranks : List ℕ → List ℤ → ℕ → List (List ℕ)
plan_ranks [] strides rank = []
plan_ranks (z ∷ sizes) strides rank = cond (eqb z 0) (replicate rank 1) (ranks (take rank strides)) ∷ plan_ranks sizes (drop 64 strides) rank

abbrev pub rank_at : List (List ℕ) → ℕ → ℕ → ℕ
rank_at table k i = get_or (get_or table k []) i 0

-- "the least rank that any operand has in the tail", "the least byte stride in the tail"
unfoldable pub least_rank : List (List ℕ) → ℕ → ℕ → ℕ → ℕ
least_rank table operands o n = least (λ k. least (rank_at table k) o n) 0 operands

unfoldable pub least_byte : List ℕ → ℕ → ℕ → ℕ → ℕ
least_byte bytes operands o n = least (λ k. least (byte_at bytes k) o n) 0 operands

-- "If every operand's first rank equals the least rank"
unfoldable pub keeps_first : List (List ℕ) → ℕ → ℕ → ℕ → Bool
keeps_first table operands o n = every (λ k. eqb (rank_at table k o) (least_rank table operands o n)) 0 operands

-- "the tail's blocks become 1"
unfoldable pub ones : ℕ → ℕ → List ℕ → List ℕ
ones o zero b = b
ones o (suc n) b = set (ones o n b) (o + n) 1

-- "It ends if the tail is empty or its region is at most 32,768. If .., the first axis is kept whole and the rule starts over on the rest ..
-- If the least byte stride in the tail is above 32,768, the tail's blocks become 1. Otherwise .."
unfoldable pub cutting : Machine → List ℕ → ℕ → List ℕ → List (List ℕ) → ℕ → ℕ → List ℕ → List ℕ
cutting mc bytes operands costs table o zero b = b
cutting mc bytes operands costs table o (suc n) b =
    let rest = cutting mc bytes operands costs table (o + 1) n b in
    let flat = ones o (suc n) b in
    let less = shrunk mc bytes operands costs o (suc n) b in
    cond (leb (region mc bytes operands b o (suc n)) mc.cache) b
    (cond (keeps_first table operands o (suc n)) rest
    (cond (ltb mc.cache (least_byte bytes operands o (suc n))) flat
    less))
