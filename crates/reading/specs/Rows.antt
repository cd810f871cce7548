-- What the readers of rows answer, over the kind of element: `g` is its text, and `Fits` says that it is in its range.
-- Assumes nothing.
use Rattle.std.specs.Prelude.{◌≡◌, List, ◌∷◌, ◌++◌, ℕ, length, Option, Some, None}
use Rattle.std.specs.Borrow.{Bor}
use Rattle.std.proofs.lemmas.List.Edits.{sets}
use Rattle.strided.specs.Base.{over}
use Rattle.strided.specs.Text.{Each}
use Rattle.laws.specs.Text.Once.{celled}

module _ {A : Type 0} (g : A → List ℕ) (Fits : A → Type 0) where
  -- t is a field for each of vs, the line's end, and then rest
  pub record RowHere (t : List ℕ) (vs : List A) (rest : List ℕ) : Type 0 where
    pub fits : Each Fits vs
    pub form : t ≡ over vs (celled g) ++ (10 ∷ rest)

  -- a row of `count` numbers stands there, and the array holds them from place `from` on, as far as it has places; or no such row stands there
  pub record TakesRow (t : List ℕ) (count from : ℕ) (old new : List A) (r : Option (Bor (List ℕ))) : Type 0 where
    pub to : (rest : Bor (List ℕ)) → r ≡ Some rest → (vs : List A) × (length vs ≡ count) × RowHere t vs rest.now × (new ≡ sets old from vs)
    pub bad : r ≡ None → (vs : List A) (rest : List ℕ) → length vs ≡ count → RowHere t vs rest → ⊥
