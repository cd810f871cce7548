-- A rule of shortening: which blocks it leaves, and that a turn changes nothing of where it ends. Assumes nothing.
use Rattle.std.specs.Prelude.{◌≡◌, List, ℕ, ◌<◌, ◌≤◌, get_or, set, Some, None}
use Rattle.strided.specs.Region.{region}
use Rattle.strided.specs.declared.Machine.{Machine}
use Rattle.strided.specs.Cut.{greatest_score}
use Rattle.laws.specs.Cut.Steps.{ScoresFit, Turn}

-- the rule of turns while the region is `least` or above; a turn makes of the picked block what `answers` says
pub record Shortens (answers : ℕ → ℕ → Type 0) (least : ℕ) (mc : Machine) (bytes : List ℕ) (operands : ℕ) (costs : List ℕ) (o n rank : ℕ) : Type 0 where
  pub rule : List ℕ → List ℕ
  pub small : (b : List ℕ) → region mc bytes operands b o n < least → rule b ≡ b
  pub nothing : (b : List ℕ) → greatest_score b costs o n ≡ None → rule b ≡ b
  pub turn : (b : List ℕ) (i v : ℕ) → ScoresFit rank costs b → greatest_score b costs o n ≡ Some i → least ≤ region mc bytes operands b o n
      → answers (get_or b i 0) v → Turn rule o n rank costs b (set b i v)
