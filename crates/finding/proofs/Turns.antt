-- A turn of `unravel_index` and of `ravel_index`, on lists. Assumes nothing.
use mathlib.Core.Path.{◌≡◌, refl, sym, ap, ap₂, ◌∙◌, subst}
use mathlib.Core.Bool.{Bool, true, false, cond}
use mathlib.Core.List.{List, [], ◌∷◌, ◌++◌, append-nil}
use Prim.Native.Nat.{ℕ, zero, suc, ◌+◌, ◌-◌, ◌*◌, ◌/◌, ◌%◌, ◌^◌, ◌≤◌, ◌<◌}
use native.Mathlib.Nat.{mul_comm, mul-pos, le_trans}
use native.Mathlib.Numerals.{add-one}
use native.Mathlib.Omega.{arith}
use lib.Arith.{digits_lt}
use lib.Dec.{eqb}
use lib.ListN.{length, get_or, take, drop, set, replicate, length-replicate, drop_of_length-le}
use lib.Seq.{drop-cons, get_or-take, length-take-le, lt-length-set}
use borrow.Author.Tests.{eq-eqb, ne_eqb}
use Rattle.strided.specs.Base.{padded, unless}
use Rattle.strided.specs.Layout.{Within, NoZero, total}
use Rattle.strided.specs.Order.{pick, place}
use Rattle.strided.specs.Index.{hd, tl, unravel, ravel, ravel_step, Raveled}
use Rattle.laws.specs.Base.Layouts.{within-length, within-drop, within-total, nozero_at, total_nozero, total-drop}
use Rattle.laws.specs.Base.Stores.{set-padded, blank-first}
use Rattle.laws.specs.Order.Picked.{length-pick, length-place}
use Rattle.laws.specs.Fuse.Radix.{kept}
use Rattle.laws.specs.Fuse.Arrays.{Below, at-below, get_d_pick}
use Rattle.laws.specs.Fuse.Finding.{within-pick}
use Rattle.finding.specs.Mapped.{Sound, kept_extents, unraveled, raveled, or_nought, or_one}
use Rattle.finding.proofs.Kept.{kept-one, kept_other, kept-drop, kept-few, extents-few}

-- ---- telling

hd-drop : (l : List ℕ) (j : ℕ) → hd (drop j l) ≡ get_or l j 0
hd-drop [] zero = refl
hd-drop [] (suc j) = refl
hd-drop (x ∷ l) zero = refl
hd-drop (x ∷ l) (suc j) = hd-drop l j

tl-drop : (l : List ℕ) (j : ℕ) → tl (drop j l) ≡ drop (suc j) l
tl-drop [] zero = refl
tl-drop [] (suc j) = refl
tl-drop (x ∷ l) zero = refl
tl-drop (x ∷ l) (suc j) = tl-drop l j

-- stores within the count
place-padded : (n : ℕ) (xs o ys : List ℕ) → Below (length xs) o → place (padded n 0 xs) o ys ≡ padded n 0 (place xs o ys)
place-padded n xs [] ys b = refl
place-padded n xs (a ∷ o) [] b = refl
place-padded n xs (a ∷ o) (y ∷ ys) b =
    ap (λ r. place r o ys) (set-padded 0 n xs a y b.0) ∙ place-padded n (set xs a y) o ys (same o b.1)
  where
    same : (o : List ℕ) → Below (length xs) o → Below (length (set xs a y)) o
    same [] b = tt
    same (i ∷ o) b = (lt-length-set xs a y b.0, same o b.1)

-- one axis is told: x is what is left of the last counter, x' what this axis is told from
module _ (o E F C out : List ℕ) (i j x x' j' : ℕ) (a : i < length o) (b : i < length E) (d : i < length F)
    (x-is : x' ≡ cond (eqb (get_or F i 0) 1) x (get_or C j 0)) (j-is : drop j' C ≡ cond (eqb (get_or F i 0) 1) (drop j C) (drop (suc j) C)) where
  told : place (set out (get_or o i 0) (x' % get_or E i 0)) (drop (suc i) o) (unravel (drop (suc i) E) (drop (suc i) F) (drop j' C) (x' / get_or E i 0))
      ≡ place out (drop i o) (unravel (drop i E) (drop i F) (drop j C) x)
  told = rw (drop-cons o i 0 a, drop-cons E i 0 b, drop-cons F i 0 d, hd-drop C j, tl-drop C j, ← x-is, ← j-is)

-- the two ways of the branch: the next counter, or what is left
pub next_counter : (f x c j x' j' i : ℕ) (C : List ℕ) → (f ≡ 1 → ⊥) → x' ≡ c → j' ≡ j + 1 → j ≤ i
    → (j' ≤ i + 1) × (x' ≡ cond (eqb f 1) x c) × (drop j' C ≡ cond (eqb f 1) (drop j C) (drop (suc j) C))
next_counter f x c j x' j' i C ne p q l = (omega arith, rw (ne_eqb f 1 ne) p, rw (ne_eqb f 1 ne, q, add-one j))

pub same_counter : (f x c j x' j' i : ℕ) (C : List ℕ) → f ≡ 1 → x' ≡ x → j' ≡ j → j ≤ i
    → (j' ≤ i + 1) × (x' ≡ cond (eqb f 1) x c) × (drop j' C ≡ cond (eqb f 1) (drop j C) (drop (suc j) C))
same_counter f x c j x' j' i C e p q l = (omega arith, rw e p, rw (e, q))

-- ---- back

-- what is left and the counters of the axes from i on
abbrev pub ravel_from : List ℕ → List ℕ → List ℕ → ℕ → Raveled
ravel_from E F I i = ravel (drop i E) (drop i F) (drop i I)

-- what is left stays below the product of the extents passed
left_lt : (es fs is : List ℕ) → Within es is → (ravel es fs is).left < total es
left_lt [] fs [] r = omega arith
left_lt [] fs (i ∷ is) r = absurd r
left_lt (e ∷ es) fs [] r = absurd r
left_lt (e ∷ es) [] (i ∷ is) r = mul-pos (omega (arith, r.0)) (le_trans (omega arith) (left_lt es [] is r.1))
left_lt (e ∷ es) (f ∷ fs) (i ∷ is) r = go (eqb f 1) (left_lt es fs is r.1)
  where
    go : (b : Bool) → (ravel es fs is).left < total es → (ravel_step b ((ravel es fs is).left * e + i) (ravel es fs is).counters).left < e * total es
    go true h = rw (mul_comm e (total es)) (digits_lt h r.0)
    go false h = mul-pos (omega (arith, r.0)) (omega arith)

-- as many counters as extents are kept
length-counters : (es fs is : List ℕ) → length fs ≡ length es → length is ≡ length es → length (ravel es fs is).counters ≡ length (kept fs)
length-counters [] [] is p q = refl
length-counters [] (f ∷ fs) is p q = absurd (omega arith)
length-counters (e ∷ es) [] is p q = refl
length-counters (e ∷ es) (f ∷ fs) [] p q = absurd (omega arith)
length-counters (e ∷ es) (f ∷ fs) (i ∷ is) p q = go (eqb f 1) (length-counters es fs is (omega arith) (omega arith))
  where
    go : (b : Bool) → length (ravel es fs is).counters ≡ length (kept fs)
        → length (ravel_step b ((ravel es fs is).left * e + i) (ravel es fs is).counters).counters ≡ length (unless b f (kept fs))
    go true h = h
    go false h = ap suc h

-- axis h, in front of those from h + 1 on
module _ (E F I : List ℕ) (h : ℕ) (a : h < length E) (b : h < length F) (d : h < length I) where
  abbrev sum : ℕ
  sum = (ravel_from E F I (suc h)).left * get_or E h 0 + get_or I h 0

  back : ravel_from E F I h ≡ ravel_step (eqb (get_or F h 0) 1) sum (ravel_from E F I (suc h)).counters
  back = rw (drop-cons E h 0 a, drop-cons F h 0 b, drop-cons I h 0 d)

  back_one : get_or F h 0 ≡ 1 → ravel_from E F I h ≡ record { left = sum; counters = (ravel_from E F I (suc h)).counters }
  back_one e = back ∙ ap (λ (t : Bool). ravel_step t sum (ravel_from E F I (suc h)).counters) (eq-eqb (get_or F h 0) 1 e)

  back_other : (get_or F h 0 ≡ 1 → ⊥) → ravel_from E F I h ≡ record { left = 0; counters = sum ∷ (ravel_from E F I (suc h)).counters }
  back_other f = back ∙ ap (λ (t : Bool). ravel_step t sum (ravel_from E F I (suc h)).counters) (ne_eqb (get_or F h 0) 1 f)

  -- the sum of a turn is below the total
  sum_fits_lem : Within E I → total E < 2 ^ 64 → sum < 2 ^ 64
  sum_fits_lem r t =
      let w' : Within (get_or E h 0 ∷ drop (suc h) E) (get_or I h 0 ∷ drop (suc h) I) = rw (drop-cons E h 0 a, drop-cons I h 0 d) at (within-drop E I h r) in
      let p : total (drop h E) ≡ get_or E h 0 * total (drop (suc h) E) = ap total (drop-cons E h 0 a) in
      let s : sum < total (drop (suc h) E) * get_or E h 0 = digits_lt (left_lt (drop (suc h) E) (drop (suc h) F) (drop (suc h) I) w'.1) w'.0 in
      omega (arith, total-drop E h (total_nozero E (within-total E I r)), p, s, mul_comm (get_or E h 0) (total (drop (suc h) E)))

-- the axes from i on are done: j counters are still to be stored
pub record Back (E F I : List ℕ) (i j z : ℕ) (out : List ℕ) : Type 0 where
  pub few : j + length (kept (drop i F)) ≡ length (kept_extents F)
  pub rest : z ≡ (ravel_from E F I i).left
  pub stored : out ≡ padded 64 0 (replicate j 0 ++ (ravel_from E F I i).counters)

-- a counter in front of those that stand
front : (n c v : ℕ) (cs : List ℕ) → set (padded n 0 (replicate (suc c) 0 ++ cs)) c v ≡ padded n 0 (replicate c 0 ++ v ∷ cs)
front zero zero v cs = refl
front zero (suc c) v cs = refl
front (suc n) zero v cs = refl
front (suc n) (suc c) v cs = ap (λ (r : List ℕ). 0 ∷ r) (front n c v cs)

back_none : (E F I : List ℕ) (n j : ℕ) → length E ≡ n → length F ≡ n → n ≤ 64 → j ≡ length (kept_extents F) → Back E F I n j 0 (replicate 64 0)
back_none E F I n j a b s q =
    let la : length E ≤ n = omega arith in
    let lb : length F ≤ n = omega arith in
    let none : drop n E ≡ [] = drop_of_length-le E la in
    let gone : drop n F ≡ [] = drop_of_length-le F lb in
    record {
      few = rw (gone, ← q) (omega arith);
      rest = rw none;
      stored = blank-first 0 64 j (omega (arith, extents-few F)) ∙ ap (padded 64 0) (nothing none);
    }
  where
    nothing : drop n E ≡ [] → replicate j 0 ≡ replicate j 0 ++ (ravel_from E F I n).counters
    nothing e = sym (append-nil (replicate j 0)) ∙ ap (λ (es : List ℕ). replicate j 0 ++ (ravel es (drop n F) (drop n I)).counters) (sym e)

module _ (E F I : List ℕ) (h j z : ℕ) (out : List ℕ) (a : h < length E) (b : h < length F) (d : h < length I) (t : Back E F I (suc h) j z out) where
  same_sum : z * get_or E h 0 + get_or I h 0 ≡ sum E F I h a b d
  same_sum = ap (λ (w : ℕ). w * get_or E h 0 + get_or I h 0) t.rest

  turn_fits : Within E I → total E < 2 ^ 64 → z * get_or E h 0 + get_or I h 0 < 2 ^ 64
  turn_fits r l = rw same_sum (sum_fits_lem E F I h a b d r l)

  turn_one : get_or F h 0 ≡ 1 → Back E F I h j (z * get_or E h 0 + get_or I h 0) out
  turn_one e =
      record {
        few = ap (λ (l : List ℕ). j + length l) (kept-one F h b e) ∙ t.few;
        rest = same_sum ∙ sym (ap (λ (w : Raveled). w.left) (back_one E F I h a b d e));
        stored = t.stored ∙ ap (λ (w : Raveled). padded 64 0 (replicate j 0 ++ w.counters)) (sym (back_one E F I h a b d e));
      }

  turn_left : (get_or F h 0 ≡ 1 → ⊥) → 0 < j
  turn_left f = omega (arith, t.few, ap length (kept_other F h b f), kept-drop F h, kept-few F)

  turn_other : (get_or F h 0 ≡ 1 → ⊥) → Back E F I h (j - 1) 0 (set out (j - 1) (z * get_or E h 0 + get_or I h 0))
  turn_other f =
      let one_less : j ≡ suc (j - 1) = omega (arith, turn_left f) in
      record {
        few = omega (arith, t.few, ap length (kept_other F h b f), turn_left f);
        rest = sym (ap (λ (w : Raveled). w.left) (back_other E F I h a b d f));
        stored =
            ap₂ (λ (r : List ℕ) (v : ℕ). set r (j - 1) v) t.stored same_sum
            ∙ ap (λ (k : ℕ). set (padded 64 0 (replicate k 0 ++ (ravel_from E F I (suc h)).counters)) (j - 1) (sum E F I h a b d)) one_less
            ∙ front 64 (j - 1) (sum E F I h a b d) (ravel_from E F I (suc h)).counters
            ∙ ap (λ (w : Raveled). padded 64 0 (replicate (j - 1) 0 ++ w.counters)) (sym (back_other E F I h a b d f));
      }

-- a counter is left in the end only where no axis is kept
back_end : (E F I : List ℕ) (j z : ℕ) (out : List ℕ) → length F ≡ length E → length I ≡ length E → Back E F I 0 j z out
    → out ≡ padded 64 0 (or_nought (kept F) F (ravel E F I).counters)
back_end E F I j z out p q t = t.stored ∙ ap (padded 64 0) (go (kept F) F (ravel E F I).counters j (length-counters E F I p q) t.few)
  where
    go : (ks fs cs : List ℕ) (j : ℕ) → length cs ≡ length ks → j + length ks ≡ length (or_one ks fs) → replicate j 0 ++ cs ≡ or_nought ks fs cs
    go [] [] [] zero l e = refl
    go [] [] [] (suc j) l e = absurd (omega arith)
    go [] [] (c ∷ cs) j l e = absurd (omega arith)
    go [] (f ∷ fs) [] zero l e = absurd (omega arith)
    go [] (f ∷ fs) [] (suc zero) l e = refl
    go [] (f ∷ fs) [] (suc (suc j)) l e = absurd (omega arith)
    go [] (f ∷ fs) (c ∷ cs) j l e = absurd (omega arith)
    go (k ∷ ks) fs cs zero l e = refl
    go (k ∷ ks) fs cs (suc j) l e = absurd (omega arith)

-- ---- on the arrays of a map

-- the axes before i are told, and what is left tells the others
pub record Telling (es order fused cs : List ℕ) (i j x : ℕ) (out : List ℕ) : Type 0 where
  pub few : i ≤ length es
  pub fewer : j ≤ i
  pub rest : place out (drop i (take (length es) order)) (unravel (drop i (pick 0 es (take (length es) order))) (drop i (take (length es) fused)) (drop j cs) x)
      ≡ place (replicate 64 0) (take (length es) order) (unravel (pick 0 es (take (length es) order)) (take (length es) fused) cs 0)

-- the axes from i on are done
abbrev pub Done : List ℕ → List ℕ → List ℕ → List ℕ → ℕ → ℕ → ℕ → List ℕ → Type 0
Done es order fused is i j z out = Back (pick 0 es (take (length es) order)) (take (length es) fused) (pick 0 is (take (length es) order)) i j z out

module _ {es order fused : List ℕ} (t : Sound es order fused) where
  abbrev n : ℕ
  n = length es

  abbrev o : List ℕ
  o = take (length es) order

  abbrev E : List ℕ
  E = pick 0 es (take (length es) order)

  abbrev F : List ℕ
  F = take (length es) fused

  order_counted : length (take (length es) order) ≡ length es
  order_counted = length-take-le n order (omega (arith, t.order_long, t.few-axes))

  extents_counted : length (pick 0 es (take (length es) order)) ≡ length es
  extents_counted = length-pick 0 es o ∙ order_counted

  pub fused_counted : length (take (length es) fused) ≡ length es
  fused_counted = length-take-le n fused (omega (arith, t.fused_long, t.few-axes))

  pub order_below : Below (length es) (take (length es) order)
  order_below =
      at-below n o (λ j q. let w : j < length es = omega (arith, order_counted) in let v : get_or order j 0 < length es = t.inside j w in rw (get_or-take n order j 0 w) v)

  module _ (i : ℕ) (h : i < length es) where
    pub axis_there : get_or order i 0 < length es
    axis_there = t.inside i h

    order_at : get_or (take (length es) order) i 0 ≡ get_or order i 0
    order_at = get_or-take n order i 0 h

    extent_at : get_or (pick 0 es (take (length es) order)) i 0 ≡ get_or es (get_or order i 0) 0
    extent_at = get_d_pick 0 es o i (omega (arith, order_counted)) ∙ ap (λ (a : ℕ). get_or es a 0) order_at

    fused_at_lem : get_or (take (length es) fused) i 0 ≡ get_or fused i 0
    fused_at_lem = get_or-take n fused i 0 h

    pub extent_positive : NoZero es → 0 < get_or es (get_or order i 0) 0
    extent_positive z = nozero_at es (get_or order i 0) z axis_there

  module _ (cs : List ℕ) where
    pub tell_none : (out : List ℕ) → out ≡ replicate 64 0 → Telling es order fused cs 0 0 0 out
    tell_none out e = record { few = omega arith; fewer = omega arith; rest = ap (λ (l : List ℕ). place l o (unravel E F cs 0)) e }

    module _ (i j x x' j' : ℕ) (out : List ℕ) (p : Telling es order fused cs i j x out) where
      pub tell_turn : i < length es
          → (j' ≤ i + 1) × (x' ≡ cond (eqb (get_or fused i 0) 1) x (get_or cs j 0)) × (drop j' cs ≡ cond (eqb (get_or fused i 0) 1) (drop j cs) (drop (suc j) cs))
          → (q r : ℕ) → q ≡ x' / get_or es (get_or order i 0) 0 → r ≡ x' % get_or es (get_or order i 0) 0
          → Telling es order fused cs (i + 1) j' q (set out (get_or order i 0) r)
      tell_turn h w q r q-is r-is =
          let f : get_or (take (length es) fused) i 0 ≡ get_or fused i 0 = fused_at_lem i h in
          record {
            few = omega arith;
            fewer = w.0;
            rest =
                rw (add-one i, q-is, r-is, ← extent_at i h, ← order_at i h)
                (told o E F cs out i j x x' j' (omega (arith, order_counted)) (omega (arith, extents_counted)) (omega (arith, fused_counted))
                (rw f w.1) (rw f w.2)
                ∙ p.rest);
          }

      pub tell_end : length es ≤ i → out ≡ padded 64 0 (unraveled es order fused cs)
      tell_end h =
          let g : length (take (length es) order) ≤ i = omega (arith, order_counted) in
          let e : length (replicate {A = ℕ} (length es) 0) ≡ length es = length-replicate (length es) 0 in
          ap (λ (l : List ℕ). place out l (unravel (drop i E) (drop i F) (drop j cs) x)) (sym (drop_of_length-le o g))
          ∙ p.rest
          ∙ ap (λ (r : List ℕ). place r o (unravel E F cs 0)) (blank-first 0 64 n t.few-axes)
          ∙ place-padded 64 (replicate n 0) o (unravel E F cs 0) (subst (λ (k : ℕ). Below k o) (sym e) order_below)

  pub unraveled_long : (cs : List ℕ) → length es ≡ length (unraveled es order fused cs)
  unraveled_long cs = sym (length-place 0 (replicate n 0) o (unravel E F cs 0) ∙ length-replicate n 0)

  -- ---- and back

  index_counted : (is : List ℕ) → length (pick 0 is (take (length es) order)) ≡ length es
  index_counted is = length-pick 0 is o ∙ order_counted

  pub raveled_long : (is : List ℕ) → length (kept_extents (take (length es) fused)) ≡ length (raveled es order fused is)
  raveled_long is =
      go (kept F) F (ravel E F (pick 0 is o)).counters
      (length-counters E F (pick 0 is o) (omega (arith, fused_counted, extents_counted)) (omega (arith, index_counted is, extents_counted)))
    where
      go : (ks fs cs : List ℕ) → length cs ≡ length ks → length (or_one ks fs) ≡ length (or_nought ks fs cs)
      go [] [] cs e = refl
      go [] (f ∷ fs) cs e = refl
      go (k ∷ ks) fs cs e = sym e

  module _ (is : List ℕ) (r : Within es is) where
    abbrev I : List ℕ
    I = pick 0 is (take (length es) order)

    pub index_long : length is ≡ length es
    index_long = within-length es is r

    inside_order : Within (pick 0 es (take (length es) order)) (pick 0 is (take (length es) order))
    inside_order = within-pick es is o order_below r

    pub done_none : (j : ℕ) (out : List ℕ) → j ≡ length (kept_extents (take (length es) fused)) → out ≡ replicate 64 0 → Done es order fused is (length es) j 0 out
    done_none j out q e = subst (Done es order fused is (length es) j 0) (sym e) (back_none E F I n j extents_counted fused_counted t.few-axes q)

    pub done_end : (j z : ℕ) (out : List ℕ) → Done es order fused is 0 j z out → out ≡ padded 64 0 (raveled es order fused is)
    done_end j z out d = back_end E F I j z out (omega (arith, fused_counted, extents_counted)) (omega (arith, index_counted is, extents_counted)) d

    -- axis i - 1, in front of those from i on
    module _ (i j z : ℕ) (out : List ℕ) (p : 0 < i) (g : i ≤ length es) (d : Done es order fused is i j z out) where
      here : i - 1 < length es
      here = omega arith

      index_at : get_or (pick 0 is (take (length es) order)) (i - 1) 0 ≡ get_or is (get_or order (i - 1) 0) 0
      index_at = get_d_pick 0 is o (i - 1) (omega (arith, order_counted, here)) ∙ ap (λ (a : ℕ). get_or is a 0) (get_or-take n order (i - 1) 0 here)

      next : Done es order fused is (suc (i - 1)) j z out
      next =
          let q : i ≡ suc (i - 1) = omega arith in
          subst (λ (k : ℕ). Done es order fused is k j z out) q d

      in_extents : i - 1 < length (pick 0 es (take (length es) order))
      in_extents = omega (arith, extents_counted)

      in_fused : i - 1 < length (take (length es) fused)
      in_fused = omega (arith, fused_counted)

      in_index : i - 1 < length (pick 0 is (take (length es) order))
      in_index = omega (arith, index_counted is)

      pub done_fits : z * get_or es (get_or order (i - 1) 0) 0 + get_or is (get_or order (i - 1) 0) 0 < 2 ^ 64
      done_fits = rw (extent_at (i - 1) here, index_at) at (turn_fits E F I (i - 1) j z out in_extents in_fused in_index next inside_order t.cells)

      pub done_one : get_or fused (i - 1) 0 ≡ 1 → Done es order fused is (i - 1) j (z * get_or es (get_or order (i - 1) 0) 0 + get_or is (get_or order (i - 1) 0) 0) out
      done_one e = rw (extent_at (i - 1) here, index_at) at (turn_one E F I (i - 1) j z out in_extents in_fused in_index next (fused_at_lem (i - 1) here ∙ e))

      pub done_left : (get_or fused (i - 1) 0 ≡ 1 → ⊥) → 0 < j
      done_left f = turn_left E F I (i - 1) j z out in_extents in_fused in_index next (λ e. f (sym (fused_at_lem (i - 1) here) ∙ e))

      pub done_other : (get_or fused (i - 1) 0 ≡ 1 → ⊥)
          → Done es order fused is (i - 1) (j - 1) 0 (set out (j - 1) (z * get_or es (get_or order (i - 1) 0) 0 + get_or is (get_or order (i - 1) 0) 0))
      done_other f = rw (extent_at (i - 1) here, index_at) at (turn_other E F I (i - 1) j z out in_extents in_fused in_index next (λ e. f (sym (fused_at_lem (i - 1) here) ∙ e)))
