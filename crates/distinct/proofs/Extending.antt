-- The loop of `extend`: the places before j hold copies of the first n, and of the copies behind it none shares a number with the first.
-- Assumes nothing.
use mathlib.Core.Path.{◌≡◌, refl, sym, ap, ◌∙◌, subst}
use mathlib.Core.Logic.{inl, inr, ⊎_elim}
use mathlib.Core.Bool.{Bool, true, false}
use mathlib.Core.List.{List, [], ◌∷◌}
use Prim.Native.Nat.{ℕ, zero, suc, ◌+◌, ◌-◌, ◌*◌, ◌/◌, ◌%◌, ◌<◌, ◌≤◌}
use native.Mathlib.Nat.{add-mul, mul_comm, mul-le-mul_right, div-add-mod', mod-lt, div-lt_iff_lt-mul, le-div_iff_mul-le}
use native.Mathlib.Omega.{arith}
use lib.ListN.{length, get_or, take, set, length-set}
use lib.Seq.{get_or-take, length-take-le, get_or-set_same, get_or-set_other}
use Rattle.laws.specs.Base.Ranges.{below_or}
use Rattle.distinct.specs.Lists.{In, top, Low, Looked}
use Rattle.distinct.specs.Copies.{Copied, Fold}
use Rattle.distinct.proofs.Merging.{in_front}

-- ---- a look among the first n

abbrev pub Missing : List ℕ → ℕ → ℕ → Type 0
Missing l n x = (i : ℕ) → i < n → get_or l i 0 ≡ x → ⊥

pub looked_front : (l : List ℕ) (n x : ℕ) (r : Bool) → n ≤ length l → Looked (take n l) (length (take n l)) x r → Looked l n x r
looked_front l n x r h w = record { found = found; missing = missing }
  where
    long : length (take n l) ≡ n
    long = length-take-le n l h

    found : r ≡ true → (i : ℕ) × (i < n) × (get_or l i 0 ≡ x)
    found e =
        let f = w.found e in
        let p : f.0 < n = omega (arith, f.1, long) in
        (f.0, p, sym (get_or-take n l f.0 0 p) ∙ f.2)

    missing : r ≡ false → Missing l n x
    missing e i p q = w.missing e i (omega (arith, p, long)) (get_or-take n l i 0 p ∙ q)

-- ---- places

in_place : (v : ℕ) (l : List ℕ) → In v l → (i : ℕ) × (i < length l) × (get_or l i 0 ≡ v)
in_place v [] h = absurd h
in_place v (x ∷ l) (inl e) = (0, omega arith, e)
in_place v (x ∷ l) (inr h) = let w = in_place v l h in (suc w.0, omega (arith, w.1), w.2)

place-front : (v : ℕ) (l : List ℕ) (n : ℕ) → n ≤ length l → In v (take n l) → (i : ℕ) × (i < n) × (get_or l i 0 ≡ v)
place-front v l n h q =
    let w = in_place v (take n l) q in
    let p : w.0 < n = omega (arith, w.1, length-take-le n l h) in
    (w.0, p, sym (get_or-take n l w.0 0 p) ∙ w.2)

-- ---- the loop

pub record Extended (old : List ℕ) (n e a : ℕ) (list : List ℕ) (j : ℕ) : Type 0 where
  pub begun : n ≤ j
  pub within : j ≤ n * e
  pub long : length list ≡ 256
  pub holds : (k i : ℕ) → i < n → k * n + i < j → get_or list (k * n + i) 0 ≡ k * a + get_or old i 0
  pub clear : (k i : ℕ) → 0 < k → i < n → k * n + i < j → Missing old n (k * a + get_or old i 0)

module _ (old : List ℕ) (n e a : ℕ) (some : 0 < n) (one : 0 < e) (room : n * e ≤ 256) (old-long : length old ≡ 256) where
  first_copy : (k i : ℕ) → k * n + i < n → k ≡ 0
  first_copy zero i h = refl
  first_copy (suc k) i h = absurd (omega arith)

  fits : n ≤ n * e
  fits = let g : 1 * n ≤ e * n = mul-le-mul_right n one in omega (arith, mul_comm e n)

  pub extend_starts : Extended old n e a old n
  extend_starts = record {
    begun = omega arith;
    within = fits;
    long = old-long;
    holds = λ k i h q. let z = first_copy k i q in
        let p : k * n + i ≡ i = omega (arith, ap (λ (m : ℕ). m * n) z) in
        let p' : get_or old i 0 ≡ k * a + get_or old i 0 = omega (arith, ap (λ (m : ℕ). m * a) z) in
        ap (λ (m : ℕ). get_or old m 0) p ∙ p';
    clear = λ k i p h q. absurd (omega (arith, first_copy k i q));
  }

  module _ (list : List ℕ) (j : ℕ) (s : Extended old n e a list j) where
    -- the first n are as they were
    first-kept : (i : ℕ) → i < n → get_or list i 0 ≡ get_or old i 0
    first-kept i h =
        let p : i ≡ 0 * n + i = omega arith in
        let p' : 0 * a + get_or old i 0 ≡ get_or old i 0 = omega arith in
        ap (λ (m : ℕ). get_or list m 0) p ∙ s.holds 0 i h (omega (arith, s.begun)) ∙ p'

    -- what comes next is the next copy's
    next_is : (k i : ℕ) → i < n → k * n + i ≡ j → get_or list (j - n) 0 + a ≡ k * a + get_or old i 0
    next_is zero i h q = absurd (omega (arith, s.begun))
    next_is (suc k) i h q =
        let p : j - n ≡ k * n + i = omega arith in
        let g : get_or list (j - n) 0 ≡ k * a + get_or old i 0 = ap (λ (m : ℕ). get_or list m 0) p ∙ s.holds k i h (omega arith) in
        omega (arith, g)

    column : j % n < n
    column = mod-lt j some

    split : j / n * n + j % n ≡ j
    split = div-add-mod' j n

    copy_some : 0 < j / n
    copy_some = (le-div_iff_mul-le some).1 (let g : 1 * n ≤ j = omega (arith, s.begun) in g)

    copy_few : j < n * e → j / n < e
    copy_few h = (div-lt_iff_lt-mul some).1 (let g : j < e * n = omega (arith, mul_comm e n) in g)

    -- it fits
    pub next_low : j < n * e → Low old n ((e - 1) * a) → get_or list (j - n) 0 + a < top
    next_low h low =
        let g : j / n * a ≤ (e - 1) * a = mul-le-mul_right a (let g : j / n ≤ e - 1 = omega (arith, copy_few h) in g) in
        omega (arith, g, next_is (j / n) (j % n) column split, low (get_or old (j % n) 0) (in_front old n (j % n) (omega (arith, fits)) column))

    pub extend_folds : (i : ℕ) → j < n * e → i < n → get_or list i 0 ≡ get_or list (j - n) 0 + a → Fold (take n old) e a
    extend_folds i h p q = record {
      k = 0;
      k' = j / n;
      v = get_or old i 0;
      v' = get_or old (j % n) 0;
      less = copy_some;
      few = copy_few h;
      inside = in_front old n i (omega (arith, fits)) p;
      inside' = in_front old n (j % n) (omega (arith, fits)) column;
      same = omega (arith, first-kept i p, q, next_is (j / n) (j % n) column split);
    }

    pub extend_more : j < n * e → Missing list n (get_or list (j - n) 0 + a) → Extended old n e a (set list j (get_or list (j - n) 0 + a)) (j + 1)
    extend_more h m = record {
      begun = omega (arith, s.begun);
      within = omega arith;
      long = length-set list j (get_or list (j - n) 0 + a) ∙ s.long;
      holds = λ k i p q. ⊎_elim
          (λ (b : k * n + i < j). get_or-set_other list j (k * n + i) (get_or list (j - n) 0 + a) 0 (λ c. absurd (omega arith)) ∙ s.holds k i p b)
          (λ (b : j ≤ k * n + i). let c : k * n + i ≡ j = omega arith in
          ap (λ (x : ℕ). get_or (set list j (get_or list (j - n) 0 + a)) x 0) c ∙ get_or-set_same list j (get_or list (j - n) 0 + a) 0 (omega (arith, s.long)) ∙ next_is k i p c)
          (below_or (k * n + i) j);
      clear = λ k i o p q. ⊎_elim
          (λ (b : k * n + i < j). s.clear k i o p b)
          (λ (b : j ≤ k * n + i). λ i' p' x. let c : k * n + i ≡ j = omega arith in m i' p' (first-kept i' p' ∙ x ∙ sym (next_is k i p c)))
          (below_or (k * n + i) j);
    }

    module _ (whole : n * e ≤ j) where
      place_in : (k i : ℕ) → k < e → i < n → k * n + i < n * e
      place_in k i h p =
          let g : (k + 1) * n ≤ e * n = mul-le-mul_right n (let g : k + 1 ≤ e = omega arith in g) in
          omega (arith, g, add-mul k 1 n, mul_comm e n)

      -- a later copy shares no number with an earlier one
      never : (k i k' i' : ℕ) → k < k' → k' < e → i < n → i' < n → k * a + get_or old i 0 ≡ k' * a + get_or old i' 0 → ⊥
      never k i k' i' b h p p' q =
          let c : k + (k' - k) ≡ k' = omega arith in
          s.clear (k' - k) i' (omega arith) p' (omega (arith, place_in (k' - k) i' (omega arith) p')) i p
          (omega (arith, q, add-mul k (k' - k) a, ap (λ (m : ℕ). m * a) c))

      pub extend_ends : Copied (take n old) e a (take (n * e) list)
      extend_ends = record {
        size = length-take-le (n * e) list (omega (arith, s.long)) ∙ ap (λ (m : ℕ). m * e) (sym (length-take-le n old (omega (arith, fits))));
        covers = λ k v h q. let w = place-front v old n (omega (arith, fits)) q in
            let p = place_in k w.0 h w.1 in
            subst (λ (u : ℕ). In u (take (n * e) list)) (s.holds k w.0 w.1 (omega (arith, p)) ∙ ap (λ (u : ℕ). k * a + u) w.2)
            (in_front list (n * e) (k * n + w.0) (omega (arith, s.long)) p);
        from = λ u q. let w = place-front u list (n * e) (omega (arith, s.long)) q in
            let c : w.0 % n < n = mod-lt w.0 some in
            let d : w.0 / n * n + w.0 % n ≡ w.0 = div-add-mod' w.0 n in
            record {
              k = w.0 / n;
              v = get_or old (w.0 % n) 0;
              few = (div-lt_iff_lt-mul some).1 (let g : w.0 < e * n = omega (arith, w.1, mul_comm e n) in g);
              inside = in_front old n (w.0 % n) (omega (arith, fits)) c;
              is = sym w.2 ∙ ap (λ (m : ℕ). get_or list m 0) (sym d) ∙ s.holds (w.0 / n) (w.0 % n) c (omega (arith, d, w.1));
            };
        apart = λ k v k' v' h q h' q' x. let w = place-front v old n (omega (arith, fits)) q in
            let w' = place-front v' old n (omega (arith, fits)) q' in
            let y : k * a + get_or old w.0 0 ≡ k' * a + get_or old w'.0 0 = omega (arith, x, w.2, w'.2) in
            ⊎_elim
            (λ (b : k < k'). absurd (never k w.0 k' w'.0 b h' w.1 w'.1 y))
            (λ (b : k' ≤ k). ⊎_elim
            (λ (b' : k' < k). absurd (never k' w'.0 k w.0 b' h w'.1 w.1 (sym y)))
            (λ (b' : k ≤ k'). let c : k ≡ k' = omega arith in (c, omega (arith, x, ap (λ (m : ℕ). m * a) c)))
            (below_or k' k))
            (below_or k k');
      }
