-- `states::offsets_of` meets its contract. Assumes nothing.
use Rattle.std.proofs.Common.{ap, ◌∙◌, List, ◌++◌, ℤ, pos, drop, length, ◌≡◌, ◌∷◌, [], ℕ, zero, suc, ◌≤◌, arith, refl}
use Rattle.strided.specs.Base.{padded}
use Rattle.states.proofs.offsets_of.Goals as goal

-- a list copied over the front of an array of z
laid_over : (z : ℤ) (n : ℕ) (xs : List ℤ) → length xs ≤ n → xs ++ drop (length xs) (padded n z []) ≡ padded n z xs
laid_over z zero [] h = refl
laid_over z zero (x ∷ xs) h = absurd (omega arith)
laid_over z (suc n) [] h = refl
laid_over z (suc n) (x ∷ xs) h = ap (λ r. x ∷ r) (laid_over z n xs (omega arith))

pub returns : goal.returns
returns c =
    let starts = c.args.starts.now in
    ap (λ (l : List ℤ). l ++ drop (length starts) (padded 8 (pos 0) [])) c.copy_from_slice.ensures.after ∙ laid_over (pos 0) 8 starts c.requires
