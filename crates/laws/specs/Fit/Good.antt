-- THE FIT IS AS GOOD AS GoodFit SAYS, on any machine. One turn of the fit skips its axis, sets it to 1 and goes on, or sets the greatest block
-- and ends; `Fit n b r` is what holds of the blocks r that come of b when the axes below n are looked at, and each turn keeps it.
-- Assumes nothing.
use Rattle.std.specs.Prelude.{◌≡◌, ◌⊎◌, cond, not, ◌&&◌, List, [], ◌∷◌, ◌++◌, length, set, take, drop}
use Rattle.std.proofs.Math.Path.{refl, subst, subst⁻¹}
use Rattle.std.proofs.Common.{sym, ap, ◌∙◌, inr, le_refl, le_trans, get_or-set_same, get_or-set_other, get_or-drop}
use Rattle.std.proofs.Math.Logic.{inl, ⊎_elim}
use Rattle.std.proofs.Math.Bool.{Bool, true, false}
use Rattle.std.proofs.lemmas.Bool.{false≢true}
use Prim.Native.Nat.{ℕ, zero, suc, ◌+◌, ◌≤◌, ◌<◌}
use Rattle.std.proofs.Math.Nat.{le_of_eq, lt_of_lt_of_le}
use Rattle.std.proofs.Math.Decide.{ℕ_discrete}
use native.Mathlib.Omega.{arith}
use Rattle.std.proofs.Math.Dec.{ltb, leb, eqb}
use Rattle.std.proofs.Math.ListN.{get_or, get_or-eq_default}
use Rattle.std.proofs.lemmas.List.{set_split, take-set-le}
use borrow.Author.Tests.{ltb-true, ltb-false, leb-true, leb-false, le-leb, ne_eqb, eqb-false, not-true}
use Rattle.strided.specs.Region.{byte_at}
use Rattle.strided.specs.Fit.{reuse, counts, aliases, load, enters_of, enters, shortens, most_of, fit_from, fitted}
use Rattle.strided.specs.GoodFit.{one_more, one_more_alone, AtMost, Free, Frozen, FitStatement}
use Rattle.strided.specs.declared.Machine.{Machine}
use Rattle.laws.specs.Base.Tests.{and_both, or_cases}
use Rattle.laws.specs.Cut.Ranges.{le_or_lt, greatest_le, greatest_behind, greatest-holds}
use Rattle.laws.specs.Cut.Picks.{above_there}
use Rattle.laws.specs.Cut.Steps.{set_le, set_above}
use Rattle.laws.specs.Cut.Grow.{load_mono}
use Rattle.laws.specs.Cut.Cases.{shortens_above}

-- ---- lists whose places do not fall

append_mono : (xs ys zs : List ℕ) → AtMost ys zs → AtMost (xs ++ ys) (xs ++ zs)
append_mono [] ys zs h j = h j
append_mono (x ∷ xs) ys zs h zero = le_refl x
append_mono (x ∷ xs) ys zs h (suc j) = append_mono xs ys zs h j

cons_mono : (x y : ℕ) (xs ys : List ℕ) → x ≤ y → AtMost xs ys → AtMost (x ∷ xs) (y ∷ ys)
cons_mono x y xs ys h k zero = h
cons_mono x y xs ys h k (suc j) = k j

-- two lists that begin alike
behind_mono : (xs : List ℕ) (x y : ℕ) (b r : List ℕ) (n : ℕ) → x ≤ y → ((j : ℕ) → n ≤ j → get_or b j 0 ≤ get_or r j 0)
    → AtMost (xs ++ (x ∷ drop n b)) (xs ++ (y ∷ drop n r))
behind_mono xs x y b r n h k =
    append_mono xs (x ∷ drop n b) (y ∷ drop n r) (cons_mono x y (drop n b) (drop n r) h
    (λ j. let c = k (n + j) (omega arith) in omega (arith, get_or-drop n b j 0, get_or-drop n r j 0)))

module _ (mc : Machine) (bytes sizes : List ℕ) (rank : ℕ) (chosen_size : ℕ → ℕ) where
  abbrev L : List ℕ → ℕ
  L b = load mc bytes sizes rank b

  abbrev may : List ℕ → ℕ → Bool
  may b i = shortens mc bytes sizes rank chosen_size b i

  abbrev most : List ℕ → ℕ → ℕ
  most b i = most_of mc bytes sizes rank b i

  abbrev fit : ℕ → List ℕ → List ℕ
  fit n b = fit_from mc bytes sizes rank chosen_size n b

  abbrev FreeAt : ℕ → Type 0
  FreeAt i = Free mc bytes sizes rank chosen_size i

  abbrev FrozenAt : ℕ → Type 0
  FrozenAt i = Frozen mc bytes sizes rank chosen_size i

  -- ---- which axes are shortened

  -- only axes of the plan enter a product
  enters_of_below : (i k : ℕ) → enters_of mc bytes sizes rank i k ≡ true → i < rank
  unfolding enters_of counts
  enters_of_below i k e =
      let r : ℕ = reuse mc bytes rank k in
      let a = and_both (not (eqb (get_or sizes k 0) 0) && (ltb 0 r && ltb r rank)) (ltb i r && aliases mc (byte_at bytes k i)) e in
      let c = and_both (not (eqb (get_or sizes k 0) 0)) (ltb 0 r && ltb r rank) a.0 in
      let d = and_both (ltb 0 r) (ltb r rank) c.1 in
      let l = and_both (ltb i r) (aliases mc (byte_at bytes k i)) a.1 in
      omega (arith, ltb-true r rank d.1, ltb-true i r l.0)

  enters_below : (i : ℕ) → enters mc bytes sizes rank i ≡ true → i < rank
  unfolding enters
  enters_below i e = ⊎_elim
      (λ q. enters_of_below i 0 q)
      (λ q. enters_of_below i 1 q)
      (or_cases (enters_of mc bytes sizes rank i 0) (enters_of mc bytes sizes rank i 1) e)

  pub may_free : (b : List ℕ) (i : ℕ) → shortens mc bytes sizes rank chosen_size b i ≡ true → Free mc bytes sizes rank chosen_size i
  unfolding shortens
  may_free b i e =
      let q = and_both (not (eqb (chosen_size i) 0)) (enters mc bytes sizes rank i && ltb 1 (get_or b i 0)) e in
      let r = and_both (enters mc bytes sizes rank i) (ltb 1 (get_or b i 0)) q.1 in
      let z : chosen_size i ≡ 0 → ⊥ = eqb-false (chosen_size i) 0 (not-true (eqb (chosen_size i) 0) q.0) in
      record { within = r.0; moves = omega arith }

  may-not : (b : List ℕ) (i : ℕ) → may b i ≡ false → FreeAt i → get_or b i 0 ≤ 1
  unfolding shortens
  may-not b i e f =
      let z : eqb (chosen_size i) 0 ≡ false = ne_eqb (chosen_size i) 0 (λ q. absurd (omega (arith, f.moves))) in
      ltb-false 1 (get_or b i 0) (rw (z, f.within) at e)

  frozen_not : (i : ℕ) → FrozenAt i → FreeAt i → ⊥
  frozen_not i z f = ⊎_elim
      (λ q. false≢true (sym q ∙ f.within))
      (λ q. absurd (omega (arith, f.moves)))
      z

  -- ---- what holds of the blocks r that come of b when the axes below n are looked at

  record Fit (n : ℕ) (b r : List ℕ) : Type 0 where
    outer : (j : ℕ) → n ≤ j → get_or r j 0 ≡ get_or b j 0
    less : AtMost r b
    kept : (j : ℕ) → FrozenAt j → get_or r j 0 ≡ get_or b j 0
    tight : (i : ℕ) → get_or r i 0 < get_or b i 0 → mc.live < L (one_more b r i)
    achieved : ((j : ℕ) → j < n → 1 ≤ get_or b j 0) → (L r ≤ mc.live) ⊎ ((i : ℕ) → i < n → FreeAt i → get_or r i 0 ≡ 1)
    above : (j : ℕ) → 1 ≤ get_or b j 0 → 1 ≤ get_or r j 0

  fit_none : (n : ℕ) (b : List ℕ) → ((i : ℕ) → i < n → FreeAt i → get_or b i 0 ≤ 1) ⊎ (L b ≤ mc.live) → Fit n b b
  fit_none n b h = record {
    outer = λ j l. refl;
    less = λ j. le_refl (get_or b j 0);
    kept = λ j z. refl;
    tight = λ i l. absurd (omega (arith, l));
    achieved = λ above. ⊎_elim
        (λ k. inr (λ i l f. let a = above i l in let c = k i l f in omega arith))
        (λ k. inl k)
        h;
    above = λ j l. l;
  }

  -- an axis is below n, or n
  below_or : (i n : ℕ) → i < suc n → (i ≡ n) ⊎ (i < n)
  below_or i n h = elim (ℕ_discrete i n) [ yes e ↦ inl e | no e ↦ inr (omega arith) ]

  -- the axis is skipped
  skip : (n : ℕ) (b r : List ℕ) → may b n ≡ false → Fit n b r → Fit (suc n) b r
  skip n b r e f = record {
    outer = λ j l. f.outer j (omega arith);
    less = f.less;
    kept = f.kept;
    tight = f.tight;
    achieved = λ above. ⊎_elim
        (λ k. inl k)
        (λ k. inr (λ i l v. ⊎_elim
        (λ (q : i ≡ n).
        let one : get_or b n 0 ≤ 1 = may-not b n e (subst (λ (x : ℕ). FreeAt x) q v) in
        let up : 1 ≤ get_or b n 0 = above n (omega arith) in
        let same : get_or r n 0 ≡ get_or b n 0 = f.outer n (le_refl n) in
        ap (λ (x : ℕ). get_or r x 0) q ∙ omega arith)
        (λ (q : i < n). k i q v)
        (below_or i n l)))
        (f.achieved (λ j l. above j (omega arith)));
    above = f.above;
  }

  -- axis n takes v, at most its block
  module _ (n : ℕ) (b : List ℕ) (e : may b n ≡ true) (v : ℕ) (small : v ≤ get_or b n 0) where
    there : n < length b
    there = above_there b n (shortens_above mc bytes sizes rank chosen_size b n e)

    at : get_or (set b n v) n 0 ≡ v
    at = get_or-set_same b n v 0 there

    other : (j : ℕ) → (j ≡ n → ⊥) → get_or (set b n v) j 0 ≡ get_or b j 0
    other j q = get_or-set_other b n j v 0 q

    set_less : AtMost (set b n v) b
    set_less j = set_le b n v j there small

    set-kept : (j : ℕ) → FrozenAt j → get_or (set b n v) j 0 ≡ get_or b j 0
    set-kept j z = other j (λ q. absurd (frozen_not n (subst (λ (x : ℕ). FrozenAt x) q z) (may_free b n e)))

    -- with block v on axis n, blocks that are v or more there and no less behind it load more
    one_more_lem : (r : List ℕ) (x : ℕ) → v ≤ x → ((j : ℕ) → suc n ≤ j → get_or b j 0 ≤ get_or r j 0) → L (set b n v) ≤ L (take n b ++ (x ∷ drop (suc n) r))
    one_more_lem r x h k =
        subst⁻¹ (λ (l : List ℕ). L l ≤ L (take n b ++ (x ∷ drop (suc n) r))) (set_split b n v there)
        (load_mono mc bytes sizes rank (take n b ++ (v ∷ drop (suc n) b)) (take n b ++ (x ∷ drop (suc n) r)) (behind_mono (take n b) v x b r (suc n) h k))

  -- block 1 leaves the load above the live lines: axis n takes 1, and the fit goes on
  on : (n : ℕ) (b r : List ℕ) → may b n ≡ true → mc.live < L (set b n 1) → Fit n (set b n 1) r → Fit (suc n) b r
  on n b r e big f =
      let above : 1 < get_or b n 0 = shortens_above mc bytes sizes rank chosen_size b n e in
      let h : 1 ≤ get_or b n 0 = omega arith in
      let one : get_or r n 0 ≡ 1 = f.outer n (le_refl n) ∙ at n b e 1 h in
      let out : (j : ℕ) → suc n ≤ j → get_or r j 0 ≡ get_or b j 0 = λ j l. f.outer j (omega arith) ∙ other n b e 1 h j (λ q. absurd (omega arith)) in
      record {
        outer = out;
        less = λ j. le_trans (f.less j) (set_less n b e 1 h j);
        kept = λ j z. f.kept j z ∙ set-kept n b e 1 h j z;
        tight = λ i l. ⊎_elim
            (λ (k : suc n ≤ i). absurd (omega (arith, out i k)))
            (λ (k : i < suc n). ⊎_elim
            (λ (q : i ≡ n).
            subst⁻¹ (λ (x : ℕ). mc.live < L (one_more b r x)) q
            (lt_of_lt_of_le big (one_more_lem n b e 1 h r (get_or r n 0 + 1) (omega arith) (λ j l. le_of_eq (sym (out j l))))))
            (λ (q : i < n).
            let o : get_or (set b n 1) i 0 ≡ get_or b i 0 = other n b e 1 h i (λ z. absurd (omega arith)) in
            subst (λ (t : List ℕ). mc.live < L (t ++ ((get_or r i 0 + 1) ∷ drop (suc i) r))) (take-set-le i b n 1 (omega arith))
            (f.tight i (omega arith)))
            (below_or i n k))
            (le_or_lt (suc n) i);
        achieved = λ up. ⊎_elim
            (λ k. inl k)
            (λ k. inr (λ i l v. ⊎_elim
            (λ (q : i ≡ n). ap (λ (x : ℕ). get_or r x 0) q ∙ one)
            (λ (q : i < n). k i q v)
            (below_or i n l)))
            (f.achieved (λ j l. set_above b n 1 j (le_refl 1) (up j (omega arith))));
        above = λ j l. f.above j (set_above b n 1 j (le_refl 1) l);
      }

  -- axis n takes the greatest block with load at most the live lines, and the fit ends
  last : (n : ℕ) (b : List ℕ) → may b n ≡ true → L (set b n 1) ≤ mc.live → Fit (suc n) b (set b n (most b n))
  unfolding most_of
  last n b e few =
      let above : 1 < get_or b n 0 = shortens_above mc bytes sizes rank chosen_size b n e in
      let t : ℕ → Bool = λ x. leb (L (set b n x)) mc.live in
      let g : ℕ = most b n in
      let h : g ≤ get_or b n 0 = greatest_le t (get_or b n 0) in
      let is : get_or (set b n g) n 0 ≡ g = at n b e g h in
      let out : (j : ℕ) → (j ≡ n → ⊥) → get_or (set b n g) j 0 ≡ get_or b j 0 = other n b e g h in
      let holds = greatest-holds t (get_or b n 0) 1 (le_refl 1) (omega arith) (le-leb (L (set b n 1)) mc.live few) in
      record {
        outer = λ j l. out j (λ q. absurd (omega arith));
        less = set_less n b e g h;
        kept = set-kept n b e g h;
        tight = λ i l. elim (ℕ_discrete i n) [
          | yes q ↦ subst⁻¹ (λ (x : ℕ). mc.live < L (one_more b (set b n g) x)) q
              (let s : g < get_or b n 0 = omega (arith, is, subst (λ (x : ℕ). get_or (set b n g) x 0 < get_or b x 0) q l) in
              let big : mc.live < L (set b n (g + 1)) = leb-false (L (set b n (g + 1))) mc.live (greatest_behind t (get_or b n 0) (g + 1) (omega arith) (omega arith)) in
              lt_of_lt_of_le big (one_more_lem n b e (g + 1) (omega arith) (set b n g) (get_or (set b n g) n 0 + 1) (omega arith)
              (λ j k. le_of_eq (sym (out j (λ z. absurd (omega arith)))))))
          | no q ↦ absurd (omega (arith, out i q, l))
        ];
        achieved = λ up. inl (leb-true (L (set b n g)) mc.live holds.0);
        above = λ j. set_above b n g j holds.1;
      }

  -- ---- all the turns

  fit-from : (n : ℕ) (b : List ℕ) → Fit n b (fit n b)
  unfolding fit_from
  fit-from zero b = fit_none zero b (inl (λ i l f. absurd (omega arith)))
  fit-from (suc n) b = go (may b n) (ltb mc.live (L (set b n 1))) refl refl (fit-from n b) (fit-from n (set b n 1))
    where
      go : (s l : Bool) → may b n ≡ s → ltb mc.live (L (set b n 1)) ≡ l → Fit n b (fit n b) → Fit n (set b n 1) (fit n (set b n 1))
          → Fit (suc n) b (cond s (cond l (fit n (set b n 1)) (set b n (most b n))) (fit n b))
      go true true e q f f₁ = on n b (fit n (set b n 1)) e (ltb-true mc.live (L (set b n 1)) q) f₁
      go true false e q f f₁ = last n b e (ltb-false mc.live (L (set b n 1)) q)
      go false l e q f f₁ = skip n b (fit n b) e f

  fit-whole : (b : List ℕ) → Fit rank b (fitted mc bytes sizes rank chosen_size b)
  unfolding fitted
  fit-whole b = go (ltb mc.live (L b)) refl
    where
      go : (l : Bool) → ltb mc.live (L b) ≡ l → Fit rank b (cond l (fit rank b) b)
      go true q = fit-from rank b
      go false q = fit_none rank b (inr (ltb-false mc.live (L b) q))

  -- no block falls below 1
  pub fitted_above : (b : List ℕ) (i : ℕ) → 1 ≤ get_or b i 0 → 1 ≤ get_or (fitted mc bytes sizes rank chosen_size b) i 0
  fitted_above b = (fit-whole b).above

  -- a frozen axis keeps its block
  pub fitted-kept : (b : List ℕ) (i : ℕ) → Frozen mc bytes sizes rank chosen_size i → get_or (fitted mc bytes sizes rank chosen_size b) i 0 ≡ get_or b i 0
  fitted-kept b = (fit-whole b).kept

  -- the axes outside it as in the model load no less
  model_tight : (b r : List ℕ) (i : ℕ) → AtMost r b → get_or r i 0 < get_or b i 0 → L (one_more b r i) ≤ L (one_more_alone b r i)
  model_tight b r i less l =
      let x : ℕ = get_or r i 0 + 1 in
      let there : i < length b = ⊎_elim
      (λ (o : length b ≤ i). absurd (omega (arith, l, get_or-eq_default b 0 o)))
      (λ o. o)
      (le_or_lt (length b) i) in
      subst⁻¹ (λ (y : List ℕ). L (one_more b r i) ≤ L y) (set_split b i x there)
      (load_mono mc bytes sizes rank (one_more b r i) (take i b ++ (x ∷ drop (suc i) b)) (behind_mono (take i b) x x r b (suc i) (le_refl x) (λ j k. less j)))

-- ---- the theorem

pub fit_good : FitStatement
fit_good mc bytes sizes rank chosen_size b above =
    let f = fit-whole mc bytes sizes rank chosen_size b in
    let r : List ℕ = fitted mc bytes sizes rank chosen_size b in
    record {
      achieved = ⊎_elim
          (λ h. inl h)
          (λ h. inr (λ i v. h i (enters_below mc bytes sizes rank chosen_size i v.within) v))
          (f.achieved above);
      tight = λ i l. record {
        outside_fitted = f.tight i l;
        outside_model = lt_of_lt_of_le (f.tight i l) (model_tight mc bytes sizes rank chosen_size b r i f.less l);
      };
      shrinks = f.less;
      kept = f.kept;
    }
