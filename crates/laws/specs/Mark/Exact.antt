-- `shared`, the test of every pair of indices, is the claim `Shared`. Assumes nothing.
use Rattle.std.specs.Prelude.{◌≡◌, refl, ◌↔◌, Bool, true, false, not, List, [], ◌∷◌, ℕ, eqb, ℤ, pos, negsuc}
use Rattle.std.proofs.Common.{sym, ap₂, subst, eqb-true, eq-eqb}
use Rattle.std.proofs.lemmas.Bool.{false≢true}
use Rattle.strided.specs.Layout.{Within, dot}
use Rattle.strided.specs.Fuse.{eq_z}
use Rattle.strided.specs.Mark.{Shared, some_index, same_index, meets, shared}
use Rattle.laws.specs.Base.Tests.{and_both, both_and}
use Rattle.laws.specs.Fuse.Fused.{eq_z_true}
use Rattle.laws.specs.Refusals.Operands.{some_of_where, some_of_found}

-- where the test holds at some index, one of them; and back
some_index_lem : (es : List ℕ) (t : List ℕ → Bool) → some_index es t ≡ true → (x : List ℕ) × Within es x × (t x ≡ true)
unfolding some_index
some_index_lem [] t h = ([], tt, h)
some_index_lem (e ∷ es) t h =
    let r = some_of_where (λ k. some_index es (λ x. t (k ∷ x))) e h in
    let s = some_index_lem es (λ x. t (r.0 ∷ x)) r.2 in
    (r.0 ∷ s.0, (r.1, s.1), s.2)

index_some : (es : List ℕ) (t : List ℕ → Bool) (x : List ℕ) → Within es x → t x ≡ true → some_index es t ≡ true
unfolding some_index
index_some [] t [] w h = h
index_some [] t (k ∷ x) w h = absurd w
index_some (e ∷ es) t [] w h = absurd w
index_some (e ∷ es) t (k ∷ x) w h =
    some_of_found (λ j. some_index es (λ y. t (j ∷ y))) k e w.0 (index_some es (λ y. t (k ∷ y)) x w.1 h)

-- the two tests of a pair
same_true : (x y : List ℕ) → same_index x y ≡ true → x ≡ y
same_true [] [] h = refl
same_true [] (j ∷ y) h = absurd (false≢true h)
same_true (k ∷ x) [] h = absurd (false≢true h)
same_true (k ∷ x) (j ∷ y) h =
    let p = and_both (eqb k j) (same_index x y) h in
    ap₂ (λ (n : ℕ) (r : List ℕ). n ∷ r) (eqb-true k j p.0) (same_true x y p.1)

same_self : (x : List ℕ) → same_index x x ≡ true
same_self [] = refl
same_self (k ∷ x) = both_and (eqb k k) (same_index x x) (eq-eqb k k refl) (same_self x)

not_same : (x y : List ℕ) → not (same_index x y) ≡ true → x ≡ y → ⊥
not_same x y h e = false≢true (subst (λ (b : Bool). not b ≡ true) (subst (λ (z : List ℕ). same_index x z ≡ true) e (same_self x)) h)

same_not : (x y : List ℕ) → (x ≡ y → ⊥) → not (same_index x y) ≡ true
same_not x y d = go (same_index x y) refl
  where
    go : (b : Bool) → same_index x y ≡ b → not b ≡ true
    go true e = absurd (d (same_true x y e))
    go false e = refl

eq_z_self : (a : ℤ) → eq_z a a ≡ true
eq_z_self (pos a) = eq-eqb a a refl
eq_z_self (negsuc a) = eq-eqb a a refl

module _ (es : List ℕ) (ts : List ℤ) where
  pub test_shared : shared es ts ≡ true → Shared es ts
  unfolding shared
  test_shared h =
      let r = some_index_lem es (λ x. some_index es (meets ts x)) h in
      let s = some_index_lem es (meets ts r.0) r.2 in
      let p = and_both (not (same_index r.0 s.0)) (eq_z (dot r.0 ts) (dot s.0 ts)) s.2 in
      record {
        one = r.0;
        other = s.0;
        one_in = r.1;
        other_in = s.1;
        differ = not_same r.0 s.0 p.0;
        same = eq_z_true (dot r.0 ts) (dot s.0 ts) p.1;
      }

  pub shared_test : Shared es ts → shared es ts ≡ true
  unfolding shared
  shared_test s =
      index_some es (λ x. some_index es (meets ts x)) s.one s.one_in
      (index_some es (meets ts s.one) s.other s.other_in
      (both_and (not (same_index s.one s.other)) (eq_z (dot s.one ts) (dot s.other ts))
      (same_not s.one s.other s.differ)
      (subst (λ (z : ℤ). eq_z (dot s.one ts) z ≡ true) s.same (eq_z_self (dot s.one ts)))))

  -- no pair shares
  pub apart_test : (Shared es ts → ⊥) → shared es ts ≡ false
  apart_test d = go (shared es ts) refl
    where
      go : (b : Bool) → shared es ts ≡ b → b ≡ false
      go true e = absurd (d (test_shared e))
      go false e = refl

  -- a code's answer that is true exactly if `Shared` is the test's
  pub test_is : (r : Bool) → (r ≡ true) ↔ Shared es ts → r ≡ shared es ts
  test_is true f = sym (shared_test (f.0 refl))
  test_is false f = sym (apart_test (λ s. false≢true (f.1 s)))
