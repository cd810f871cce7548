-- Two signed numbers are compared by their bits; and the operands of `all_join` one by one. Assumes nothing.
use mathlib.Core.Path.{◌≡◌, refl, sym, ap, ap₂, subst, ◌∙◌}
use mathlib.Core.List.{List, [], ◌∷◌}
use mathlib.Core.Bool.{Bool, true, false, false≢true, ◌&&◌, and-true, and_assoc, and_comm}
use Prim.Native.Nat.{ℕ, zero, suc, ◌+◌, ◌*◌, ◌-◌}
use native.Mathlib.Nat.{add-zero}
use native.Mathlib.Omega.{arith}
use lib.Dec.{eqb}
use lib.IntN.{ℤ, pos, negsuc}
use lib.ListN.{length, get_or}
use mir.Syntax.{w64}
use mir.Val.{SFits, to_z, of_z}
use mir.Facts.{to_z-of_z}
use borrow.Author.Tests.{eq-eqb, ne_eqb}
use Rattle.std.specs.List.{list_all}
use Rattle.std.proofs.lemmas.Iterator.{YieldsList}
use Rattle.std.proofs.lemmas.Iterator.Consumers.{YieldsList-from_shown}
use Rattle.std.specs.declared.ops.Range.{Range}
use Rattle.std.specs.declared.iter.Rev.{Rev}
use Rattle.std.specs.Iterator.Adapters.{rev_source, rev_steps}
use Rattle.std.proofs.iter.runs.Sources.{nat_range_steps_back}
use Rattle.strided.specs.Layout.{stride_column}
use Rattle.strided.specs.Fuse.{eq_z, joins, all_join}
use Rattle.laws.specs.Fuse.Fused.{eq_z_true}

pub eq_z_refl : (a : ℤ) → eq_z a a ≡ true
eq_z_refl (pos a) = eq-eqb a a refl
eq_z_refl (negsuc a) = eq-eqb a a refl

pub eq_eq_z : (a b : ℤ) → a ≡ b → eq_z a b ≡ true
eq_eq_z a b e = rw (← e) (eq_z_refl a)

pub ne_eq_z : (a b : ℤ) → (a ≡ b → ⊥) → eq_z a b ≡ false
ne_eq_z a b f = go (eq_z a b) refl
  where
    go : (c : Bool) → eq_z a b ≡ c → c ≡ false
    go true q = absurd (f (eq_z_true a b q))
    go false q = refl

pub eq_z_false : (a b : ℤ) → eq_z a b ≡ false → a ≡ b → ⊥
eq_z_false a b q e = false≢true (sym q ∙ eq_eq_z a b e)

-- two signed numbers are compared by their bits
pub bits_inj : (a b : ℤ) → SFits w64 a → SFits w64 b → of_z w64 a ≡ of_z w64 b → a ≡ b
bits_inj a b f g e = sym (to_z-of_z f) ∙ ap (to_z w64) e ∙ to_z-of_z g

pub eqb_bits : (a b : ℤ) → SFits w64 a → SFits w64 b → eqb (of_z w64 a) (of_z w64 b) ≡ eq_z a b
eqb_bits a b f g = go (eq_z a b) refl
  where
    go : (c : Bool) → eq_z a b ≡ c → eqb (of_z w64 a) (of_z w64 b) ≡ c
    go true q = eq-eqb (of_z w64 a) (of_z w64 b) (ap (of_z w64) (eq_z_true a b q))
    go false q = ne_eqb (of_z w64 a) (of_z w64 b) (λ e. eq_z_false a b q (bits_inj a b f g e))

pub zero_fits : SFits w64 (pos 0)
zero_fits = record { sfits = omega arith }

-- ---- operand by operand

-- the operands from o on, with one more behind them
join_more : (e p i h o n : ℕ) (s : List ℤ)
    → all_join e (stride_column s p h o (suc n)) (stride_column s p i o (suc n))
    ≡ (all_join e (stride_column s p h o n) (stride_column s p i o n) && joins e (get_or s ((o + n) * p + h) (pos 0)) (get_or s ((o + n) * p + i) (pos 0)))
join_more e p i h o zero s = rw add-zero (and-true (joins e (get_or s (o * p + h) (pos 0)) (get_or s (o * p + i) (pos 0))))
join_more e p i h o (suc n) s =
    let g : o + suc n ≡ suc o + n = omega arith in
    rw (join_more e p i h (suc o) n s, g)
    (sym (and_assoc (joins e (get_or s (o * p + h) (pos 0)) (get_or s (o * p + i) (pos 0))) (all_join e (stride_column s p h (suc o) n) (stride_column s p i (suc o) n)) (joins e (get_or s ((suc o + n) * p + h) (pos 0)) (get_or s ((suc o + n) * p + i) (pos 0)))))

-- the operands from the last one down, as a range that is reversed yields them
abbrev pub downwards : ℕ → ℕ → List ℕ
downwards a zero = []
downwards a (suc n) = (a + n) ∷ downwards a n

down_turn : (a n b m x : ℕ) → n ≡ suc m → b ≡ a → x ≡ a + m → downwards a n ≡ x ∷ downwards b m
down_turn a n b m x e f g = ap (downwards a) e ∙ ap₂ (λ (w k : ℕ). w ∷ downwards k m) (sym g) (sym f)

pub yields_downwards : {s : Rev (Range ℕ)} (n : ℕ) → rev_source s ≡ record { start = 0; end = n } → YieldsList (rev_steps nat_range_steps_back) (λ x. x) s (downwards 0 n)
yields_downwards {s} n e =
    let z : n - 0 ≡ n = omega arith in
    subst (λ (k : ℕ). YieldsList (rev_steps nat_range_steps_back) (λ x. x) s (downwards 0 k)) z
    (subst (λ (k : Range ℕ). YieldsList (rev_steps nat_range_steps_back) (λ x. x) s (downwards k.start (k.end - k.start))) e
    (YieldsList-from_shown (rev_steps nat_range_steps_back) (λ x. x) (λ u. downwards (rev_source u).start ((rev_source u).end - (rev_source u).start))
    (λ u t p. ap (λ (k : ℕ). length (downwards (rev_source u).start k)) p.1.0)
    (λ u x t p. down_turn _ _ _ _ x (omega (arith, p.0, p.1.0, p.1.1, p.1.2)) p.0 (omega (arith, p.0, p.1.0, p.1.1, p.1.2))) s))

pub all_joined : (e p i h n : ℕ) (s : List ℤ) → list_all (λ k. joins e (get_or s (k * p + h) (pos 0)) (get_or s (k * p + i) (pos 0))) (downwards 0 n)
    ≡ all_join e (stride_column s p h 0 n) (stride_column s p i 0 n)
all_joined e p i h zero s = refl
all_joined e p i h (suc n) s =
    and_comm (joins e (get_or s ((0 + n) * p + h) (pos 0)) (get_or s ((0 + n) * p + i) (pos 0))) _
    ∙ ap (λ (b : Bool). b && joins e (get_or s ((0 + n) * p + h) (pos 0)) (get_or s ((0 + n) * p + i) (pos 0))) (all_joined e p i h n s)
    ∙ sym (join_more e p i h 0 n s)
