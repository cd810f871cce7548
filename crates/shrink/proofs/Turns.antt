-- What a turn does to the blocks where they are halved, and where they lose 1: both are laws about the rules (laws, Cut/Steps). Assumes nothing.
use native.Mathlib.Omega.{arith}
use mathlib.Core.Path.{◌≡◌, sym, subst}
use mathlib.Core.List.{List}
use Prim.Native.Nat.{ℕ, ◌+◌, ◌-◌, ◌*◌, ◌/◌}
use lib.ListN.{set}
use Rattle.std.specs.Int.{div_ceil}
use Rattle.strided.specs.declared.Machine.{Machine}
use Rattle.strided.specs.Cut.{halved, lessened}
use Rattle.laws.specs.Cut.Steps.{Turn, halved_small, halved_nothing, halved_turn, lessened_fits, lessened_nothing, lessened_turn}
use Rattle.shrink.specs.Rules.{Shortens}

-- half of a block, rounding up
pub halves : (x : ℕ) {r : ℕ} → r ≡ div_ceil x 2 → r ≡ (x + 1) / 2
halves x h = omega arith

module _ {answers : ℕ → ℕ → Type 0} where
  abbrev pub by_halves : ((x r : ℕ) → answers x r → r ≡ div_ceil x 2) → (mc : Machine) (bytes : List ℕ) (operands : ℕ) (costs : List ℕ) (o n rank : ℕ)
      → Shortens answers (2 * mc.cache) mc bytes operands costs o n rank
  by_halves told mc bytes operands costs o n rank = record {
    rule = halved mc bytes operands costs o n;
    small = λ b h. halved_small mc bytes operands costs o n b h;
    nothing = λ b e. halved_nothing mc bytes operands costs o n b e;
    turn = λ b i v fit pick big a. halved_turn mc bytes operands costs o n rank b i fit pick v (halves _ (told _ v a)) big;
  }

  abbrev pub by_ones : ((x r : ℕ) → answers x r → r ≡ x - 1) → (mc : Machine) (bytes : List ℕ) (operands : ℕ) (costs : List ℕ) (o n rank : ℕ)
      → Shortens answers (mc.cache + 1) mc bytes operands costs o n rank
  by_ones told mc bytes operands costs o n rank = record {
    rule = lessened mc bytes operands costs o n;
    small = λ b h. lessened_fits mc bytes operands costs o n b (omega (arith, h));
    nothing = λ b e. lessened_nothing mc bytes operands costs o n b e;
    turn = λ b i v fit pick big a.
        subst (λ (x : ℕ). Turn (lessened mc bytes operands costs o n) o n rank costs b (set b i x)) (sym (told _ v a))
        (lessened_turn mc bytes operands costs o n rank b i fit pick (omega (arith, big)));
  }
