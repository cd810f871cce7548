-- Fused extents passed one by one: how many are kept, the extents that the plan has, and counters held against those. Assumes nothing.
use mathlib.Core.Path.{◌≡◌, refl, sym, ap, ◌∙◌}
use mathlib.Core.Bool.{Bool, true, false, ◌&&◌}
use mathlib.Core.Logic.{◌⊎◌, inl, inr}
use mathlib.Core.List.{List, [], ◌∷◌}
use Prim.Native.Nat.{ℕ, zero, suc, ◌+◌, ◌≤◌, ◌<◌}
use native.Mathlib.Nat.{le_refl, eq-or-lt_of_le}
use native.Mathlib.Numerals.{add-one}
use native.Mathlib.Omega.{arith}
use lib.Dec.{eqb, ltb}
use lib.ListN.{length, get_or, drop, drop_of_length-le}
use lib.Seq.{drop-cons}
use borrow.Author.Tests.{eq-eqb, ne_eqb, lt-ltb, le-ltb, ltb-true}
use Rattle.strided.specs.Base.{unless}
use Rattle.strided.specs.Layout.{within}
use Rattle.laws.specs.Cut.Ranges.{le_or_lt}
use Rattle.laws.specs.Fuse.Radix.{kept}
use Rattle.finding.specs.Mapped.{or_one, kept_extents}
use Rattle.layout.proofs.Ranges.{other_length}

-- ---- the kept extents from place i on

module _ (F : List ℕ) (i : ℕ) (h : i < length F) where
  kept_here : kept (drop i F) ≡ unless (eqb (get_or F i 0) 1) (get_or F i 0) (kept (drop (suc i) F))
  kept_here = ap kept (drop-cons F i 0 h)

  pub kept-one : get_or F i 0 ≡ 1 → kept (drop i F) ≡ kept (drop (suc i) F)
  kept-one e = kept_here ∙ rw (eq-eqb (get_or F i 0) 1 e)

  pub kept_other : (get_or F i 0 ≡ 1 → ⊥) → kept (drop i F) ≡ get_or F i 0 ∷ kept (drop (suc i) F)
  kept_other f = kept_here ∙ rw (ne_eqb (get_or F i 0) 1 f)

pub kept-drop : (F : List ℕ) (i : ℕ) → length (kept (drop i F)) ≤ length (kept F)
kept-drop F zero = le_refl (length (kept F))
kept-drop [] (suc i) = le_refl 0
kept-drop (f ∷ F) (suc i) = go (eqb f 1) (kept-drop F i)
  where
    go : (b : Bool) → length (kept (drop i F)) ≤ length (kept F) → length (kept (drop i F)) ≤ length (unless b f (kept F))
    go true h = h
    go false h = omega arith

kept-length : (F : List ℕ) → length (kept F) ≤ length F
kept-length [] = omega arith
kept-length (f ∷ F) = go (eqb f 1) (kept-length F)
  where
    go : (b : Bool) → length (kept F) ≤ length F → length (unless b f (kept F)) ≤ suc (length F)
    go true h = omega arith
    go false h = omega arith

-- ---- the plan's extents

pub some_kept : (F : List ℕ) → 0 < length (kept F) → kept_extents F ≡ kept F
some_kept F h = go (kept F) F h
  where
    go : (ks fs : List ℕ) → 0 < length ks → or_one ks fs ≡ ks
    go [] fs h = absurd (bad h)
      where
        bad : 0 < 0 → ⊥
        bad h = omega arith
    go (k ∷ ks) fs h = refl

pub none_kept : (F : List ℕ) → length (kept F) ≡ 0 → 0 < length F → kept_extents F ≡ 1 ∷ []
none_kept F e h = go (kept F) F e h
  where
    go : (ks fs : List ℕ) → length ks ≡ 0 → 0 < length fs → or_one ks fs ≡ 1 ∷ []
    go [] [] e h = absurd (bad h)
      where
        bad : 0 < 0 → ⊥
        bad h = omega arith
    go [] (f ∷ fs) e h = refl
    go (k ∷ ks) fs e h = absurd (bad e)
      where
        bad : suc (length ks) ≡ 0 → ⊥
        bad e = omega arith

pub no_axis_lem : (F : List ℕ) → length F ≡ 0 → kept_extents F ≡ kept F
no_axis_lem [] e = refl
no_axis_lem (f ∷ F) e = absurd (bad e)
  where
    bad : suc (length F) ≡ 0 → ⊥
    bad e = omega arith

pub kept-few : (F : List ℕ) → length (kept F) ≤ length (kept_extents F)
kept-few F = go (kept F) F
  where
    go : (ks fs : List ℕ) → length ks ≤ length (or_one ks fs)
    go [] fs = omega arith
    go (k ∷ ks) fs = le_refl (suc (length ks))

pub extents-few : (F : List ℕ) → length (kept_extents F) ≤ length F
extents-few F = go (kept F) F (kept-length F)
  where
    go : (ks fs : List ℕ) → length ks ≤ length fs → length (or_one ks fs) ≤ length fs
    go [] [] h = omega arith
    go [] (f ∷ fs) h = omega arith
    go (k ∷ ks) fs h = h

-- ---- passing them

-- the axes before i are passed, and j of them are kept
pub record Passed (fs : List ℕ) (i j : ℕ) : Type 0 where
  pub few : i ≤ length fs
  pub fewer : j ≤ i
  pub all : j + length (kept (drop i fs)) ≡ length (kept fs)

pub pass_none : (fs : List ℕ) → Passed fs 0 0
pass_none fs = record { few = omega arith; fewer = omega arith; all = omega arith }

module _ (fs : List ℕ) (i j : ℕ) (p : Passed fs i j) where
  module _ (h : i < length fs) where
    pub pass_one : get_or fs i 0 ≡ 1 → Passed fs (i + 1) j
    pass_one e =
        let k : length (kept (drop i fs)) ≡ length (kept (drop (suc i) fs)) = ap length (kept-one fs i h e) in
        record { few = omega arith; fewer = omega (arith, p.fewer); all = rw (add-one i) (omega (arith, k, p.all)) }

    pub pass_other : (get_or fs i 0 ≡ 1 → ⊥) → Passed fs (i + 1) (j + 1)
    pass_other f =
        let k : length (kept (drop i fs)) ≡ suc (length (kept (drop (suc i) fs))) = ap length (kept_other fs i h f) in
        record { few = omega arith; fewer = omega (arith, p.fewer); all = rw (add-one i) (omega (arith, k, p.all)) }

    -- there is one to keep
    pub one_kept : (get_or fs i 0 ≡ 1 → ⊥) → kept_extents fs ≡ kept fs
    one_kept f =
        let k : length (kept (drop i fs)) ≡ suc (length (kept (drop (suc i) fs))) = ap length (kept_other fs i h f) in
        some_kept fs (omega (arith, k, kept-drop fs i))

  -- all are passed
  module _ (h : length fs ≤ i) where
    nothing : drop i fs ≡ []
    nothing = drop_of_length-le fs h

    counted : j ≡ length (kept fs)
    counted = let z : length (kept (drop i fs)) ≡ 0 = ap (λ (l : List ℕ). length (kept l)) nothing in omega (arith, z, p.all)

    pub pass_stays : j ≡ 0 → 0 < length fs → kept_extents fs ≡ 1 ∷ []
    pass_stays e g = none_kept fs (sym counted ∙ e) g

    pub pass_kept : (j ≡ 0 → ⊥) ⊎ (length fs ≤ 0) → kept_extents fs ≡ kept fs
    pass_kept (inl f) = some_kept fs (go j f counted)
      where
        go : (j : ℕ) → (j ≡ 0 → ⊥) → j ≡ length (kept fs) → 0 < length (kept fs)
        go zero f e = absurd (f refl)
        go (suc j) f e = omega arith
    pass_kept (inr g) = no_axis_lem fs (omega arith)

    pub pass_count : (j ≡ 0 → ⊥) ⊎ (length fs ≤ 0) → j ≡ length (kept_extents fs)
    pass_count w = counted ∙ ap length (sym (pass_kept w))

-- ---- counters held against them

held-here : (f : ℕ) (ks cs : List ℕ) (j : ℕ) → within (f ∷ ks) (drop j cs) ≡ ((ltb j (length cs) && ltb (get_or cs j 0) f) && within ks (drop (suc j) cs))
held-here f ks cs j = go (le_or_lt (length cs) j)
  where
    go : (length cs ≤ j) ⊎ (j < length cs) → within (f ∷ ks) (drop j cs) ≡ ((ltb j (length cs) && ltb (get_or cs j 0) f) && within ks (drop (suc j) cs))
    go (inl h) = rw (drop_of_length-le cs h, le-ltb j (length cs) h)
    go (inr h) = rw (drop-cons cs j 0 h, lt-ltb j (length cs) h)

-- what is left decides the whole
pub record Held (fs : List ℕ) (cs : List ℕ) (i j : ℕ) : Type 0 where
  pub passed : Passed fs i j
  pub there : j ≤ length cs
  pub rest : within (kept (drop i fs)) (drop j cs) ≡ within (kept fs) cs

pub held_none : (fs : List ℕ) (cs : List ℕ) → Held fs cs 0 0
held_none fs cs = record { passed = pass_none fs; there = omega arith; rest = refl }

module _ (fs : List ℕ) (cs : List ℕ) (i j : ℕ) (p : Held fs cs i j) where
  module _ (h : i < length fs) where
    pub held_one : get_or fs i 0 ≡ 1 → Held fs cs (i + 1) j
    held_one e =
        record {
          passed = pass_one fs i j p.passed h e;
          there = p.there;
          rest = rw (add-one i) (ap (λ (l : List ℕ). within l (drop j cs)) (sym (kept-one fs i h e)) ∙ p.rest);
        }

    module _ {b : Bool} (is : b ≡ (ltb j (length cs) && ltb (get_or cs j 0) (get_or fs i 0))) (f : get_or fs i 0 ≡ 1 → ⊥) where
      split : within (kept fs) cs ≡ (b && within (kept (drop (i + 1) fs)) (drop (j + 1) cs))
      split =
          sym p.rest
          ∙ ap (λ (l : List ℕ). within l (drop j cs)) (kept_other fs i h f)
          ∙ held-here (get_or fs i 0) (kept (drop (suc i) fs)) cs j
          ∙ rw (← is, add-one i, add-one j)

      pub held_other : b ≡ true → Held fs cs (i + 1) (j + 1)
      held_other t =
          record {
            passed = pass_other fs i j p.passed h f;
            there = omega (arith, ltb-true j (length cs) (front (ltb j (length cs)) (sym is ∙ t)));
            rest = sym (split ∙ ap (λ (c : Bool). c && within (kept (drop (i + 1) fs)) (drop (j + 1) cs)) t);
          }
        where
          front : (a : Bool) → (a && ltb (get_or cs j 0) (get_or fs i 0)) ≡ true → a ≡ true
          front true e = refl
          front false e = e

      pub held_out : b ≡ false → false ≡ within (kept_extents fs) cs
      held_out t =
          sym (ap (λ (l : List ℕ). within l cs) (one_kept fs i j p.passed h f) ∙ split ∙ ap (λ (c : Bool). c && within (kept (drop (i + 1) fs)) (drop (j + 1) cs)) t)

  module _ (h : length fs ≤ i) where
    -- the one axis that stays
    module _ (e : j ≡ 0) (g : 0 < length fs) where
      stays : kept_extents fs ≡ 1 ∷ []
      stays = pass_stays fs i j p.passed h e g

      pub held-single : length cs ≡ 1 → {b : Bool} → b ≡ (ltb 0 (length cs) && ltb (get_or cs 0 0) 1) → b ≡ within (kept_extents fs) cs
      held-single q is = is ∙ go cs q ∙ ap (λ (l : List ℕ). within l cs) (sym stays)
        where
          go : (cs : List ℕ) → length cs ≡ 1 → (ltb 0 (length cs) && ltb (get_or cs 0 0) 1) ≡ within (1 ∷ []) cs
          go [] q = refl
          go (c ∷ []) q = and_comm_true (ltb c 1)
            where
              and_comm_true : (b : Bool) → b ≡ (b && true)
              and_comm_true true = refl
              and_comm_true false = refl
          go (c ∷ d ∷ cs) q = absurd (bad q)
            where
              bad : suc (suc (length cs)) ≡ 1 → ⊥
              bad q = omega arith

      pub held_several : (length cs ≡ 1 → ⊥) → false ≡ within (kept_extents fs) cs
      held_several q = sym (ap (λ (l : List ℕ). within l cs) stays ∙ other_length (1 ∷ []) cs q)

    pub held_end : (j ≡ 0 → ⊥) ⊎ (length fs ≤ 0) → {b : Bool} → b ≡ eqb j (length cs) → b ≡ within (kept_extents fs) cs
    held_end w is =
        is
        ∙ last cs j p.there
        ∙ ap (λ (l : List ℕ). within (kept l) (drop j cs)) (sym (nothing fs i j p.passed h))
        ∙ p.rest
        ∙ ap (λ (l : List ℕ). within l cs) (sym (pass_kept fs i j p.passed h w))
      where
        last : (cs : List ℕ) (j : ℕ) → j ≤ length cs → eqb j (length cs) ≡ within [] (drop j cs)
        last cs j h = go (eq-or-lt_of_le h)
          where
            go : (j ≡ length cs) ⊎ (j < length cs) → eqb j (length cs) ≡ within [] (drop j cs)
            go (inl e) = let g : length cs ≤ j = omega arith in rw (drop_of_length-le cs g, eq-eqb j (length cs) e)
            go (inr l) = let f : j ≡ length cs → ⊥ = λ e. omega arith in rw (drop-cons cs j 0 l, ne_eqb j (length cs) f)
