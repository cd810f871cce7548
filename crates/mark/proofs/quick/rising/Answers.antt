-- `mark::quick::rising` meets its contract. Assumes nothing.
use mathlib.Core.Path.{◌≡◌, refl, sym, ◌∙◌, subst}
use mathlib.Core.Bool.{Bool, true, false}
use mathlib.Core.List.{List}
use Prim.Native.Nat.{ℕ, ◌+◌, ◌<◌}
use native.Mathlib.Omega.{arith}
use lib.IntN.{ℤ}
use lib.ListN.{length, get_or}
use Rattle.std.proofs.Common.{rules}
use Rattle.std.specs.List.{range_with_len, AllWithin, HoldsAt}
use Rattle.std.specs.Bool.{MatchBool}
use Rattle.std.proofs.lemmas.Iterator.{cases_from_all, YieldsList-from_range}
use Rattle.std.proofs.lemmas.List.FromFn.{get_or-range_with_len, length-range_with_len}
use Rattle.strided.specs.Mark.{rises}
use Rattle.laws.specs.Mark.Sizes.{ClearAt}
use Rattle.laws.specs.Mark.Rises.{clear_rises, unclear_rises}
use Rattle.mark.proofs.quick.rising.Goals as goal

-- every axis passes, or one does not
module _ (es : List ℕ) (ts : List ℤ) (paired : length ts ≡ length es) where
  at : (k : ℕ) → k < length es → get_or (range_with_len 0 (length es)) k 0 ≡ k
  at k h = get_or-range_with_len 0 (length es) k 0 h ∙ (let e : 0 + k ≡ k = omega arith in e)

  told : (r : Bool) → MatchBool r (AllWithin (ClearAt es ts) (range_with_len 0 (length es)) 0 (length (range_with_len 0 (length es))))
      ((k : ℕ) × (k < length (range_with_len 0 (length es))) × HoldsAt (λ i. ClearAt es ts i → ⊥) (range_with_len 0 (length es)) k) → r ≡ rises es ts
  told true m =
      sym (clear_rises es ts paired (λ k h. subst (ClearAt es ts) (at k h) (m k 0 (omega arith) (omega (arith, h, length-range_with_len 0 (length es))))))
  told false m =
      let few : m.0 < length es = omega (arith, m.1, length-range_with_len 0 (length es)) in
      sym (unclear_rises es ts paired m.0 few (λ h. m.2 0 (subst (ClearAt es ts) (sym (at m.0 few)) h)))

pub returns : goal.returns
returns c =
    let o = c.args.operand in
    let n = length o.extents.now in
    told o.extents.now o.strides.now o.sound.paired c.all.result
    (cases_from_all _ _ c.all.result (ClearAt o.extents.now o.strides.now) (λ i. ClearAt o.extents.now o.strides.now i → ⊥) c.all.ensures.ran
    (YieldsList-from_range 0 n n refl (omega arith)) (λ x q h. search rules) (λ x q h. search rules))
