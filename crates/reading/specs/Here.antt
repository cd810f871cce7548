-- What stands at the front of a text. `g` is the text of a value, and `Fits` says that a value is in its range.
-- Assumes nothing.
use Rattle.std.specs.Prelude.{◌≡◌, false, List, ◌++◌, ℕ, Option, Some, None}
use Rattle.std.specs.Borrow.{Bor}
use Rattle.laws.specs.Text.Numbers.{goes_on}

module _ {A : Type 0} (g : A → List ℕ) (Fits : A → Type 0) where
  -- t is the text of v and then rest, with no digit in between
  pub record Here (t : List ℕ) (v : A) (rest : List ℕ) : Type 0 where
    pub fits : Fits v
    pub form : t ≡ g v ++ rest
    pub stops : goes_on rest ≡ false

  -- no value stands there
  abbrev pub Nowhere : List ℕ → Type 0
  Nowhere t = (v : A) (rest : List ℕ) → Here t v rest → ⊥

  -- the answer of a reader: a value stands there and the text goes on behind it, or no value stands there
  pub record Finds (t : List ℕ) (r : Option (A × Bor (List ℕ))) : Type 0 where
    pub value : (v : A) (rest : Bor (List ℕ)) → r ≡ Some (v, rest) → Here t v rest.now
    pub bad : r ≡ None → Nowhere t
