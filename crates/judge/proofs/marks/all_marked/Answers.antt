-- `judge::marks::all_marked` meets its contract: no mark is 0 exactly if every mark is above 0.
-- Assumes nothing.
use mathlib.Core.Path.{◌≡◌, sym, ap, ◌∙◌}
use mathlib.Core.Bool.{Bool, true, false, not}
use mathlib.Core.List.{List}
use Prim.Native.Nat.{ℕ}
use native.Mathlib.Nat.{zero-add}
use native.Mathlib.Omega.{arith}
use lib.Dec.{eqb}
use lib.ListN.{get_or, length}
use borrow.Author.Tests.{lt-ltb, le-ltb, eqb-true, eqb-false}
use Rattle.std.specs.List.{IsAnyAnswer}
use Rattle.strided.specs.Base.{every}
use Rattle.laws.specs.Base.Ranges.{every_holds}
use Rattle.judge.specs.Marks.{marked_at, all_marked}
use Rattle.judge.proofs.Steps.{every_fails_at}
use Rattle.judge.proofs.marks.all_marked.Goals as goal

none_is_0 : (ms : List ℕ) (b : Bool) → IsAnyAnswer (λ m t. eqb m 0 ≡ t) ms b → not b ≡ every (marked_at ms) 0 (length ms)
none_is_0 ms true h =
    let e : get_or ms h.0 0 ≡ 0 = eqb-true (get_or ms h.0 0) 0 (h.2 0) in
    sym (every_fails_at (marked_at ms) (length ms) h.0 h.1 (le-ltb 0 (get_or ms h.0 0) (omega arith)))
none_is_0 ms false h =
    sym (every_holds (marked_at ms) 0 (length ms)
    (λ k l. let e : get_or ms k 0 ≡ 0 → ⊥ = eqb-false (get_or ms k 0) 0 (h k 0 (omega arith) l) in ap (marked_at ms) (zero-add k) ∙ lt-ltb 0 (get_or ms k 0) (omega arith)))

pub returns : goal.returns
unfolding all_marked
returns c = none_is_0 c.args.marks.now c.contains.result c.contains.ensures.cases
