-- `order::as_given_into` meets its contract. Assumes nothing.
use mathlib.Core.Path.{◌≡◌, refl, sym, ap, ap₂, ◌∙◌}
use mathlib.Core.List.{List, [], ◌∷◌, ◌++◌}
use Prim.Native.Nat.{ℕ}
use native.Mathlib.Nat.{zero-add}
use native.Mathlib.Omega.{arith}
use lib.ListN.{length}
use lib.Seq.{take_all}
use Rattle.std.proofs.lemmas.List.{take_more_set}
use Rattle.strided.specs.Base.{run}
use Rattle.laws.specs.Base.Lists.{run-append}
use Rattle.order.proofs.as_given_into.Goals as goal

pub loop-i-init : goal.loop-i-init
loop-i-init c = refl

pub loop-i-preserved : goal.loop-i-preserved
loop-i-preserved c =
    let l = c.loop-i in
    take_more_set l.out l.i l.i (omega arith) ∙ ap₂ (λ (o : List ℕ) (n : ℕ). o ++ (n ∷ [])) l.invariant (sym (zero-add l.i)) ∙ sym (run-append l.i 1 0)

pub returns : goal.returns
returns c =
    let l = c.loop-i in
    let e : l.i ≡ length c.args.out.now = omega arith in
    sym (take_all l.i l.out (omega arith)) ∙ l.invariant ∙ ap (run 0) e
