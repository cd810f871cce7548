-- What the readers of the L line answer, from its end on: the chosen operand with the line's end, the counts, all behind the letter, the line.
-- Assumes nothing.
use Rattle.std.specs.Prelude.{◌≡◌, false, List, ◌∷◌, ◌++◌, ℕ, Option, Some, None}
use Rattle.std.specs.Borrow.{Bor}
use Rattle.strided.specs.Layout.{chosen, lead_of}
use Rattle.strided.specs.Text.{FitU, field, purpose_letter, chosen_field, head_line}
use Rattle.strided.specs.declared.Purpose.{Purpose}
use Rattle.laws.specs.Text.Numbers.{goes_on}
use Rattle.laws.specs.Text.Once.{head_rest}
use Rattle.reading.specs.declared.Said.{Said}

-- ---- a number that ends the line

pub record LastHere (t : List ℕ) (k : ℕ) (rest : List ℕ) : Type 0 where
  pub fits : FitU k
  pub form : t ≡ field k ++ (10 ∷ rest)

pub record ReadsLast (t : List ℕ) (r : Option (ℕ × Bor (List ℕ))) : Type 0 where
  pub value : (k : ℕ) (rest : Bor (List ℕ)) → r ≡ Some (k, rest) → LastHere t k rest.now
  pub bad : r ≡ None → (k : ℕ) (rest : List ℕ) → LastHere t k rest → ⊥

-- ---- the chosen operand of a purpose with this letter, and the line's end

pub record ChosenHere (letter : ℕ) (t : List ℕ) (u : Purpose) (rest : List ℕ) : Type 0 where
  pub letters : purpose_letter u ≡ letter
  pub fits : FitU (lead_of (chosen u))
  pub form : t ≡ chosen_field (chosen u) ++ (10 ∷ rest)

pub record ReadsChosen (letter : ℕ) (t : List ℕ) (r : Option (Purpose × Bor (List ℕ))) : Type 0 where
  pub by : (u : Purpose) (rest : Bor (List ℕ)) → r ≡ Some (u, rest) → ChosenHere letter t u rest.now
  pub bad : r ≡ None → (u : Purpose) (rest : List ℕ) → ChosenHere letter t u rest → ⊥

-- whatever a function that R tells of answers
abbrev pub ReadsChosenBy : ℕ → (Bor (List ℕ) → Option (Purpose × Bor (List ℕ)) → Type 0) → Type 0
ReadsChosenBy letter R = (s : Bor (List ℕ)) (r : Option (Purpose × Bor (List ℕ))) → R s r → ReadsChosen letter s.now r

-- ---- two counts: the rank and how many operands, here

pub record CountsHere (t : List ℕ) (first second : ℕ) (rest : List ℕ) : Type 0 where
  pub first_fits : FitU first
  pub second_fits : FitU second
  pub form : t ≡ field first ++ (field second ++ rest)
  pub stops : goes_on rest ≡ false

pub record ReadsCounts (t : List ℕ) (r : Option (ℕ × ℕ × Bor (List ℕ))) : Type 0 where
  pub told : (first second : ℕ) (rest : Bor (List ℕ)) → r ≡ Some (first, second, rest) → CountsHere t first second rest.now
  pub bad : r ≡ None → (first second : ℕ) (rest : List ℕ) → CountsHere t first second rest → ⊥

-- ---- all behind the letter, and the whole line

pub record ToldHere (letter : ℕ) (t : List ℕ) (u : Purpose) (rank operands : ℕ) (rest : List ℕ) : Type 0 where
  pub letters : purpose_letter u ≡ letter
  pub rank_fits : FitU rank
  pub operands_fit : FitU operands
  pub chosen_fits : FitU (lead_of (chosen u))
  pub form : t ≡ head_rest u rank operands rest

pub record ReadsTold (letter : ℕ) (t : List ℕ) (r : Option (Said × Bor (List ℕ))) : Type 0 where
  pub told : (h : Said) (rest : Bor (List ℕ)) → r ≡ Some (h, rest) → ToldHere letter t h.purpose h.rank h.operands rest.now
  pub bad : r ≡ None → (u : Purpose) (rank operands : ℕ) (rest : List ℕ) → ToldHere letter t u rank operands rest → ⊥

pub record HeadHere (t : List ℕ) (u : Purpose) (rank operands : ℕ) (rest : List ℕ) : Type 0 where
  pub rank_fits : FitU rank
  pub operands_fit : FitU operands
  pub chosen_fits : FitU (lead_of (chosen u))
  pub form : t ≡ head_line u rank operands ++ rest

pub record ReadsHead (t : List ℕ) (r : Option (Said × Bor (List ℕ))) : Type 0 where
  pub told : (h : Said) (rest : Bor (List ℕ)) → r ≡ Some (h, rest) → HeadHere t h.purpose h.rank h.operands rest.now
  pub bad : r ≡ None → (u : Purpose) (rank operands : ℕ) (rest : List ℕ) → HeadHere t u rank operands rest → ⊥
