-- Orders of a layout's axes, and of those whose strides stand in a flat list. Assumes nothing.
use Rattle.std.specs.Prelude.{◌≡◌, List, ℕ, ◌+◌, ◌≤◌, ◌<◌, length, get_or}
use Rattle.std.proofs.Common.{sym, ◌∙◌, subst, arith}
use mathlib.Core.Path.{ap}
use mathlib.Core.List.{map-id}
use Rattle.strided.specs.Base.{run}
use Rattle.laws.specs.Base.Lists.{length_run, get_d_run}

-- the order has as many places as the layout has axes, and names axes of it
pub record InOrder (rank : ℕ) (order : List ℕ) : Type 0 where
  pub all : length order ≡ rank
  pub inside : (j : ℕ) → j < rank → get_or order j 0 < rank

-- the order names at most 64 axes of at most 8 operands, whose strides stand at a pitch: operand k's on axis a at k * pitch + a
pub record Named (pitch operands : ℕ) (order : List ℕ) : Type 0 where
  pub few-axes : length order ≤ 64
  pub few_operands : operands ≤ 8
  pub inside : (j : ℕ) → j < length order → get_or order j 0 < pitch

-- the order that names each axis at its own place
abbrev pub given : ℕ → List ℕ
given rank = run 0 rank

pub given-at : (n i : ℕ) → i < n → get_or (given n) i 0 ≡ i
given-at n i h = let e : 0 + i ≡ i = omega arith in ap (λ (r : List ℕ). get_or r i 0) (sym (map-id (run 0 n))) ∙ get_d_run (λ (j : ℕ). j) 0 n 0 i h ∙ e

pub in_given : (n : ℕ) → InOrder n (given n)
in_given n = record { all = length_run 0 n; inside = λ j h. subst (λ (x : ℕ). x < n) (sym (given-at n j h)) h }
