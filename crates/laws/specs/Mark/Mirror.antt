-- An axis of negative stride is walked from its other end: indices then go one to one, and every offset changes by the same number. So two
-- indices share an offset exactly if two share the sum of index times stride size. Assumes nothing.
use Rattle.std.specs.Prelude.{◌≡◌, refl, cond, List, [], ◌∷◌, ℕ, suc, ◌+◌, ◌-◌, ◌*◌, ◌<◌, ℤ, pos, negsuc, neg_ℤ, nat_abs, ◌+ℤ◌, ◌-ℤ◌, length}
use Rattle.std.proofs.Common.{sym, ap, ap₂, ◌∙◌, arith}
use Rattle.std.specs.Int.Signed.{non_neg}
use Rattle.strided.specs.Layout.{Within, dot, reach_down}
use Rattle.strided.specs.Mark.{Shared}
use Rattle.laws.specs.Base.Integers.{+ℤ-less}
use Rattle.laws.specs.Walk.Row9.{below_term, below_of, dot-below}
use Rattle.laws.specs.Mark.Sizes.{far, Near}

-- ---- the other end

turned : ℕ → ℤ → ℕ → ℕ
turned e t k = cond (non_neg t) k (e - 1 - k)

mirror : List ℕ → List ℤ → List ℕ → List ℕ
mirror [] ts x = []
mirror (e ∷ es) ts [] = []
mirror (e ∷ es) [] (k ∷ x) = []
mirror (e ∷ es) (t ∷ ts) (k ∷ x) = turned e t k ∷ mirror es ts x

turned_in : (e : ℕ) (t : ℤ) (k : ℕ) → k < e → turned e t k < e
unfolding turned
turned_in e (pos a) k h = h
turned_in e (negsuc a) k h = omega arith

turned_twice : (e : ℕ) (t : ℤ) (k : ℕ) → k < e → turned e t (turned e t k) ≡ k
unfolding turned
turned_twice e (pos a) k h = refl
turned_twice e (negsuc a) k h = omega arith

mirror_in : (es : List ℕ) (ts : List ℤ) (x : List ℕ) → length ts ≡ length es → Within es x → Within es (mirror es ts x)
unfolding mirror
mirror_in [] ts [] l w = tt
mirror_in [] ts (k ∷ x) l w = absurd w
mirror_in (e ∷ es) ts [] l w = absurd w
mirror_in (e ∷ es) [] (k ∷ x) l w = absurd (omega arith)
mirror_in (e ∷ es) (t ∷ ts) (k ∷ x) l w = (turned_in e t k w.0, mirror_in es ts x (omega arith) w.1)

mirror_twice : (es : List ℕ) (ts : List ℤ) (x : List ℕ) → length ts ≡ length es → Within es x → mirror es ts (mirror es ts x) ≡ x
unfolding mirror
mirror_twice [] ts [] l w = refl
mirror_twice [] ts (k ∷ x) l w = absurd w
mirror_twice (e ∷ es) ts [] l w = absurd w
mirror_twice (e ∷ es) [] (k ∷ x) l w = absurd (omega arith)
mirror_twice (e ∷ es) (t ∷ ts) (k ∷ x) l w = ap₂ (λ (n : ℕ) (r : List ℕ). n ∷ r) (turned_twice e t k w.0) (mirror_twice es ts x (omega arith) w.1)

-- ---- every offset changes by the reach below the start

far_mirror : (es : List ℕ) (ts : List ℤ) (x : List ℕ) → length ts ≡ length es → Within es x → below_of es ts x ≡ far (mirror es ts x) ts
unfolding mirror turned below_of below_term
far_mirror [] ts [] l w = refl
far_mirror [] ts (k ∷ x) l w = absurd w
far_mirror (e ∷ es) ts [] l w = absurd w
far_mirror (e ∷ es) [] (k ∷ x) l w = absurd (omega arith)
far_mirror (e ∷ es) (pos a ∷ ts) (k ∷ x) l w = ap (λ (n : ℕ). k * a + n) (far_mirror es ts x (omega arith) w.1)
far_mirror (e ∷ es) (negsuc a ∷ ts) (k ∷ x) l w = ap (λ (n : ℕ). (e - 1 - k) * suc a + n) (far_mirror es ts x (omega arith) w.1)

dot_mirror : (es : List ℕ) (ts : List ℤ) (x : List ℕ) → length ts ≡ length es → Within es x
    → dot x ts ≡ neg_ℤ (pos (reach_down es ts)) +ℤ pos (far (mirror es ts x) ts)
dot_mirror es ts x l w = dot-below es ts x l w ∙ ap (λ (n : ℕ). neg_ℤ (pos (reach_down es ts)) +ℤ pos n) (far_mirror es ts x l w)

same-far : (z : ℤ) (a b : ℕ) → z +ℤ pos a ≡ z +ℤ pos b → a ≡ b
same-far z a b e = ap nat_abs (sym (+ℤ-less z (pos a)) ∙ ap (λ (w : ℤ). w -ℤ z) e ∙ +ℤ-less z (pos b))

module _ (es : List ℕ) (ts : List ℤ) (l : length ts ≡ length es) where
  back_differ : (x y : List ℕ) → Within es x → Within es y → (x ≡ y → ⊥) → mirror es ts x ≡ mirror es ts y → ⊥
  back_differ x y w w' d e = d (sym (mirror_twice es ts x l w) ∙ ap (mirror es ts) e ∙ mirror_twice es ts y l w')

  pub shared-near : Shared es ts → Near es ts
  shared-near s = record {
    one = mirror es ts s.one;
    other = mirror es ts s.other;
    one_in = mirror_in es ts s.one l s.one_in;
    other_in = mirror_in es ts s.other l s.other_in;
    differ = back_differ s.one s.other s.one_in s.other_in s.differ;
    same = same-far (neg_ℤ (pos (reach_down es ts))) (far (mirror es ts s.one) ts) (far (mirror es ts s.other) ts)
        (sym (dot_mirror es ts s.one l s.one_in) ∙ s.same ∙ dot_mirror es ts s.other l s.other_in);
  }

  dot-back : (x : List ℕ) → Within es x → dot (mirror es ts x) ts ≡ neg_ℤ (pos (reach_down es ts)) +ℤ pos (far x ts)
  dot-back x w =
      dot_mirror es ts (mirror es ts x) l (mirror_in es ts x l w)
      ∙ ap (λ (y : List ℕ). neg_ℤ (pos (reach_down es ts)) +ℤ pos (far y ts)) (mirror_twice es ts x l w)

  pub near-shared : Near es ts → Shared es ts
  near-shared s = record {
    one = mirror es ts s.one;
    other = mirror es ts s.other;
    one_in = mirror_in es ts s.one l s.one_in;
    other_in = mirror_in es ts s.other l s.other_in;
    differ = back_differ s.one s.other s.one_in s.other_in s.differ;
    same = dot-back s.one s.one_in ∙ ap (λ (n : ℕ). neg_ℤ (pos (reach_down es ts)) +ℤ pos n) s.same ∙ sym (dot-back s.other s.other_in);
  }
