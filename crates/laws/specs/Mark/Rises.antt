-- "each stride size exceeds the reach of those before it": what the test says of each axis by itself, and that it is right. Assumes nothing.
use Rattle.std.specs.Prelude.{◌≡◌, refl, Bool, true, false, cond, List, [], ◌∷◌, ℕ, zero, suc, ◌+◌, ◌-◌, ◌*◌, ◌<◌, ◌≤◌, leb, ℤ, nat_abs, length, get_or}
use Rattle.std.proofs.Common.{ap, ◌∙◌, subst, arith, leb-true, leb-false}
use Rattle.std.proofs.lemmas.Bool.{lt-leb}
use Rattle.strided.specs.Base.{unless}
use Rattle.laws.specs.Base.Lists.{All}
use Rattle.strided.specs.Mark.{Shared, Way, ways, exceeds, rises}
use Rattle.laws.specs.Mark.Sizes.{size_at, reach_up_to, ClearAt}
use Rattle.laws.specs.Mark.Mirror.{shared-near}
use Rattle.laws.specs.Mark.Apart.{clear_apart}
use Rattle.laws.specs.Mark.Ordered.{up_to, Clear, Big, Sorted, Rearranged, upwards_clear, clear_upwards, sorted_any}

abbrev way_at : List ℕ → List ℤ → ℕ → Way
way_at es ts i = record { extent = get_or es i 0; size = size_at ts i }

-- ---- the axes of extent above 1

up-ways : (b : ℕ) (es : List ℕ) (ts : List ℤ) → up_to b (ways es ts) ≡ reach_up_to b es ts
up-ways b [] ts = refl
up-ways b (e ∷ es) [] = refl
up-ways b (e ∷ es) (t ∷ ts) = go (leb e 1) refl (up-ways b es ts)
  where
    none : (c : Bool) → e ≤ 1 → cond c ((e - 1) * nat_abs t) 0 ≡ 0
    none true h = ap (λ (n : ℕ). n * nat_abs t) (let g : e - 1 ≡ 0 = omega arith in g) ∙ (let g : 0 * nat_abs t ≡ 0 = omega arith in g)
    none false h = refl

    go : (c : Bool) → leb e 1 ≡ c → up_to b (ways es ts) ≡ reach_up_to b es ts
        → up_to b (unless c (record { extent = e; size = nat_abs t }) (ways es ts)) ≡ cond (leb (nat_abs t) b) ((e - 1) * nat_abs t) 0 + reach_up_to b es ts
    go true q r = omega (arith, r, none (leb (nat_abs t) b) (leb-true e 1 q))
    go false q r = ap (λ (n : ℕ). cond (leb (nat_abs t) b) ((e - 1) * nat_abs t) 0 + n) r

all_big : (es : List ℕ) (ts : List ℤ) → All Big (ways es ts)
all_big [] ts = tt
all_big (e ∷ es) [] = tt
all_big (e ∷ es) (t ∷ ts) = go (leb e 1) refl (all_big es ts)
  where
    go : (c : Bool) → leb e 1 ≡ c → All Big (ways es ts) → All Big (unless c (record { extent = e; size = nat_abs t }) (ways es ts))
    go true q r = r
    go false q r = (leb-false e 1 q, r)

ways-at : (P : Way → Type 0) (es : List ℕ) (ts : List ℤ) → length ts ≡ length es → All P (ways es ts) → (i : ℕ) → i < length es → 1 < get_or es i 0 → P (way_at es ts i)
ways-at P [] ts l h i q p = absurd (omega arith)
ways-at P (e ∷ es) [] l h i q p = absurd (omega arith)
ways-at P (e ∷ es) (t ∷ ts) l h zero q p =
    (subst (λ (c : Bool). All P (unless c (record { extent = e; size = nat_abs t }) (ways es ts))) (lt-leb e 1 p) h).0
ways-at P (e ∷ es) (t ∷ ts) l h (suc i) q p = ways-at P es ts (omega arith) (later (leb e 1) h) i (omega arith) p
  where
    later : (c : Bool) → All P (unless c (record { extent = e; size = nat_abs t }) (ways es ts)) → All P (ways es ts)
    later true g = g
    later false g = g.1

at-ways : (P : Way → Type 0) (es : List ℕ) (ts : List ℤ) → length ts ≡ length es → ((i : ℕ) → i < length es → 1 < get_or es i 0 → P (way_at es ts i)) → All P (ways es ts)
at-ways P [] ts l f = tt
at-ways P (e ∷ es) [] l f = tt
at-ways P (e ∷ es) (t ∷ ts) l f = go (leb e 1) refl (at-ways P es ts (omega arith) (λ i q p. f (suc i) (omega arith) p))
  where
    go : (c : Bool) → leb e 1 ≡ c → All P (ways es ts) → All P (unless c (record { extent = e; size = nat_abs t }) (ways es ts))
    go true q r = r
    go false q r = (f 0 (omega arith) (leb-false e 1 q), r)

-- ---- each axis passes its test

module _ (es : List ℕ) (ts : List ℤ) (l : length ts ≡ length es) where
  pub rises_clear : rises es ts ≡ true → (i : ℕ) → i < length es → ClearAt es ts i
  unfolding rises
  rises_clear h i q p =
      let c : Clear 0 (ways es ts) (way_at es ts i) = ways-at (Clear 0 (ways es ts)) es ts l (upwards_clear (ways es ts) (all_big es ts) h) i q p in
      omega (arith, c, up-ways (size_at ts i) es ts)

  pub clear_rises : ((i : ℕ) → i < length es → ClearAt es ts i) → rises es ts ≡ true
  unfolding rises
  clear_rises f =
      clear_upwards (ways es ts)
      (at-ways (Clear 0 (ways es ts)) es ts l (λ i q p. let c = f i q p in omega (arith, c, up-ways (size_at ts i) es ts)))

  pub unclear_rises : (i : ℕ) → i < length es → (ClearAt es ts i → ⊥) → rises es ts ≡ false
  unclear_rises i q f = go (rises es ts) refl
    where
      go : (b : Bool) → rises es ts ≡ b → b ≡ false
      go true e = absurd (f (rises_clear e i q))
      go false e = refl

  -- THE QUICK NO: no two indices share an offset
  pub rises-apart : rises es ts ≡ true → Shared es ts → ⊥
  rises-apart h s =
      let d = shared-near es ts l s in
      d.differ (clear_apart es ts l (rises_clear h) d.one d.other d.one_in d.other_in d.same)

-- how equal sizes are sorted does not matter: any sorted order of the axes of extent above 1 gives the same answer
pub any_order : (es : List ℕ) (ts : List ℤ) (qs : List Way) → Rearranged (ways es ts) qs → Sorted qs → exceeds 0 qs ≡ rises es ts
unfolding rises
any_order es ts qs r s = sorted_any (ways es ts) qs (all_big es ts) r s
