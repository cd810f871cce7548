-- `walk::arrays::advance_on` meets its contract. Without operands an operand that stands still, from the start 0 on, takes their place. Assumes
-- nothing.
use mathlib.Core.Path.{◌≡◌, refl, sym, ap, ◌∙◌, subst}
use mathlib.Core.List.{List}
use Prim.Native.Nat.{ℕ, zero, suc, ◌+◌, ◌-◌, ◌*◌, ◌<◌, ◌^◌}
use native.Mathlib.Nat.{mul-zero}
use native.Mathlib.Omega.{arith}
use lib.IntN.{ℤ, pos, nat_abs, ◌+ℤ◌, ◌-ℤ◌, ◌*ℤ◌, *ℤ-zero}
use lib.ListN.{get_or, replicate}
use mir.Syntax.{w64}
use mir.Val.{SFits}
use Rattle.strided.specs.Memory.{plan_of}
use Rattle.advance.specs.Carry.{dot_to, start_at}
use Rattle.walk.proofs.arrays.advance_on.Goals as goal

-- ---- an operand that stands still

none_zero : (n i : ℕ) → get_or (replicate n (pos 0)) i (pos 0) ≡ pos 0
none_zero zero i = refl
none_zero (suc n) zero = refl
none_zero (suc n) (suc i) = none_zero n i

still_way : (n i : ℕ) → n * nat_abs (get_or (replicate 512 (pos 0)) i (pos 0)) < 2 ^ 63
still_way n i = subst (λ (z : ℤ). n * nat_abs z < 2 ^ 63) (sym (none_zero 512 i)) (let e : n * nat_abs (pos 0) ≡ 0 = mul-zero n in omega (arith, e))

still_dot : (n k : ℕ) (c : List ℕ) → dot_to n k c (replicate 512 (pos 0)) ≡ pos 0
unfolding dot_to
still_dot zero k c = refl
still_dot (suc n) k c =
    (λ i. still_dot n k c i +ℤ pos (get_or c n 0) *ℤ none_zero 512 (k * 64 + n) i) ∙ ap (λ (z : ℤ). pos 0 +ℤ z) (*ℤ-zero (pos (get_or c n 0)))

still_fits : (rank k : ℕ) (e b c x : List ℕ)
    → SFits w64 (start_at (plan_of rank 1 e b (replicate 512 (pos 0))) k c (replicate 8 (pos 0)) +ℤ dot_to rank k x (replicate 512 (pos 0)))
unfolding start_at
still_fits rank k e b c x =
    subst (SFits w64) (sym (λ i. (none_zero 8 k i -ℤ still_dot rank k c i) +ℤ still_dot rank k x i)) (record { sfits = omega arith })

pub advance_on-requires : goal.advance_on-requires
advance_on-requires c =
    let a = c.args in
    let r = c.requires in
    record {
      axes = r.axes;
      few = omega arith;
      counted = r.counted;
      offered = refl;
      within = r.within;
      span = λ k i h l. still_way (get_or a.extents.now i 0 - 1) (k * 64 + i);
      reach = λ k h x b. still_fits a.rank k a.extents.now a.blocks.now a.counters.now x;
    }

-- no operand is moved, and the offsets stay
pub returns-then-operands-eq0 : goal.returns-then-operands-eq0
returns-then-operands-eq0 c =
    let r = c.requires in
    let z : c.args.operands ≡ 0 = c.if-operands-eq0.true in
    let none : (k : ℕ) → k < c.args.operands → ⊥ = λ k h. omega (arith, z, h) in
    let m = c.advance_on.ensures.1 in (
      c.advance_on.ensures.0,
      record {
        answer = m.answer;
        counters = m.counters;
        roomy = record {
          axes = r.axes;
          few = r.few;
          counted = m.roomy.counted;
          offered = r.offered;
          within = m.roomy.within;
          span = λ k i h l. absurd (none k h);
          reach = λ k h x b. absurd (none k h);
        };
        tiled = record { placed = m.tiled.placed; wide = m.tiled.wide; start = m.tiled.start };
        starts = λ k h. absurd (none k h);
        others = λ k h. refl;
      },
    )
