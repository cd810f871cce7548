-- The number for what a public entry answered, where a call makes it of what is handed out. Assumes nothing.
use Rattle.std.specs.Prelude.{◌≡◌, ℤ, Result, Ok}
use Rattle.strided.specs.Memory.{code_of}
use Rattle.strided.specs.declared.Refusal.{Refusal}

-- n is the number that `code_of` tells by any `code` that tells what the call may make, R telling of a value and its number
abbrev pub Coded : {A : Type 0} → (A → ℤ → Type 0) → Result A Refusal → ℤ → Type 0
Coded {A} R answer n = (code : A → ℤ) → ((value : A) (m : ℤ) → answer ≡ Ok value → R value m → m ≡ code value) → n ≡ code_of code answer
