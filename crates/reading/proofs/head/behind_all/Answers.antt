-- `reading::head::behind_all` meets its contract: `strip_prefix` says the same. Assumes nothing.
use mathlib.Core.Path.{◌≡◌, subst}
use mathlib.Core.List.{List, ◌++◌}
use Prim.Native.Nat.{ℕ}
use Rattle.std.specs.Borrow.{Bor}
use Rattle.std.specs.Prelude.{Option, Some, None, MatchOption}
use Rattle.std.proofs.lemmas.Bool.Decides.{Decides-eqb}
use Rattle.std.proofs.lemmas.Slice.Eq.{strip_prefix_is}
use Rattle.reading.specs.Bytes.{BehindAll}
use Rattle.reading.proofs.Answers.{clash}
use Rattle.reading.proofs.head.behind_all.Goals as goal

stripped : (u t : List ℕ) (r : Option (Bor (List ℕ))) → MatchOption r ((rest : List ℕ) → t ≡ u ++ rest → ⊥) (λ x. t ≡ u ++ x.now) → BehindAll u t r
stripped u t None m = record { to = λ rest e. clash (cc); bad = λ e. m }
stripped u t (Some x) m =
    record {
      to = λ rest e. (let p : x ≡ rest = cc in subst (λ (y : Bor (List ℕ)). t ≡ u ++ y.now) p m);
      bad = λ e. clash (cc);
    }

pub returns : goal.returns
returns c = stripped _ _ _ (strip_prefix_is Decides-eqb c.args.s.now c.args.word.now c.strip_prefix.result c.strip_prefix.ensures.cases)
