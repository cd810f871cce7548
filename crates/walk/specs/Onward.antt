-- A move to the next block, told without the arrays that a walk of many blocks keeps. Assumes nothing.
use Rattle.std.specs.Prelude.{Bool, cond, List, [], ℕ, ltb, ℤ}
use Rattle.strided.specs.declared.Plan.{Plan}
use Rattle.advance.specs.declared.State.{State}
use Rattle.advance.specs.Axis.{widths}
use Rattle.advance.specs.Carry.{state_of, CarriedTo, AdvancedTo}

-- counters and offsets, with tile starts that nobody keeps
abbrev pub lone : List ℕ → List ℤ → State
lone c o = state_of [] c o

-- how many axes a carry inside a tile looks at
abbrev pub inner_of : ℕ → ℕ
inner_of rank = cond (ltb 8 rank) 1 rank

-- the same carry, and the same move, to whatever tile starts
abbrev pub CarriesOn : Bool → ℕ → ℕ → Plan → List ℕ → List ℤ → Bool → List ℕ → List ℤ → Type 0
CarriesOn inside first last p c o more c' o' = (t : List ℕ) × CarriedTo inside first last p (widths p) (lone c o) more (state_of t c' o')

abbrev pub AdvancesOn : Plan → List ℕ → List ℤ → Bool → List ℕ → List ℤ → Type 0
AdvancesOn p c o more c' o' = (t : List ℕ) × AdvancedTo p (widths p) (lone c o) more (state_of t c' o')
