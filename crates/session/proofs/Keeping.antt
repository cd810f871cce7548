-- The order by the weights is that of fusing. Assumes nothing.
use mathlib.Core.Path.{◌≡◌, sym, ap, ◌∙◌}
use mathlib.Core.Bool.{Bool, false, cond, ◌&&◌, ◌||◌}
use mathlib.Core.List.{List}
use Prim.Native.Nat.{ℕ, ◌≤◌}
use native.Mathlib.Omega.{arith}
use lib.Dec.{ltb, leb, eqb}
use lib.IntN.{ℤ}
use lib.ListN.{length, get_or}
use Rattle.strided.specs.Base.{padded, run}
use Rattle.strided.specs.Layout.{total, lead}
use Rattle.strided.specs.Weights.{weights}
use Rattle.strided.specs.Order.{follows, order_to, loop_order, fusing_order}
use Rattle.strided.specs.declared.Purpose.{Purpose}
use Rattle.laws.specs.Base.Filling.{read_padded}
use Rattle.laws.specs.Order.Tries.{weights_long}

-- axes are compared by the array's weights as by the list's
order_padded : (ws es : List ℕ) (n : ℕ) → length ws ≤ 64 → order_to (follows (padded 64 0 ws) es) n ≡ order_to (follows ws es) n
order_padded ws es n h =
    λ j. let w : ℕ → ℕ = λ i. read_padded 64 0 ws h i j in
    order_to (λ x y. ltb (w x) (w y) || (eqb (w x) (w y) && leb (get_or es x 0) (get_or es y 0))) n

-- more than 1,024 cells are put into the loop order
pub order_is : (es : List ℕ) (m : ℕ) (ss : List ℤ) (u : Purpose) → length es ≤ 64 → m ≤ 8 → leb (total es) 1024 ≡ false → (W : List ℕ) → W ≡ padded 64 0 (weights es m ss (lead u))
    → padded 64 0 (order_to (follows W es) (length es)) ≡ padded 64 0 (fusing_order es m ss u)
unfolding fusing_order loop_order
order_is es m ss u few less large W is =
    let ws : List ℕ = weights es m ss (lead u) in
    let long : length ws ≤ 64 = omega (arith, weights_long es m ss (lead u) less, few) in
    ap (padded 64 0)
    (ap (λ (w : List ℕ). order_to (follows w es) (length es)) is
    ∙ order_padded ws es (length es) long
    ∙ sym (ap (λ (t : Bool). cond t (run 0 (length es)) (loop_order es m ss u)) large))
