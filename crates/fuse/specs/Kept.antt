-- The places that stay when those of extent 1 go. Assumes nothing.
use Rattle.std.specs.Prelude.{List, [], ◌∷◌, ℕ, suc, eqb}
use Rattle.strided.specs.Base.{unless}

-- those whose extent is not 1, of the places from i on
abbrev pub kept_from : ℕ → List ℕ → List ℕ
kept_from i [] = []
kept_from i (f ∷ fs) = unless (eqb f 1) i (kept_from (suc i) fs)

-- "If none is left and rank was not 0, one axis of extent 1 stays with the first axis's strides."
abbrev pub or_zero : List ℕ → List ℕ → List ℕ
or_zero [] [] = []
or_zero [] (f ∷ fs) = 0 ∷ []
or_zero (k ∷ ks) fs = k ∷ ks

abbrev pub stays : List ℕ → List ℕ
stays fs = or_zero (kept_from 0 fs) fs
