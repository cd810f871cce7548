-- When an argument asks for help.
-- Assumes nothing.
use Rattle.std.specs.Prelude.{◌≡◌, Bool, true, List, [], ◌∷◌, ℕ}

-- "--help"
abbrev pub help : List ℕ
help = 45 ∷ (45 ∷ (104 ∷ (101 ∷ (108 ∷ (112 ∷ [])))))

-- yes exactly if the word is that one
pub record Asks (word : List ℕ) (r : Bool) : Type 0 where
  pub yes : r ≡ true → word ≡ help
  pub only : word ≡ help → r ≡ true
