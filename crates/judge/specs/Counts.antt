-- How often an index stands in a list of indices, and in lists joined: once exactly if at one place and at no other.
-- Assumes nothing.
use Rattle.std.specs.Prelude.{◌≡◌, refl, Bool, true, false, cond, ◌&&◌, List, [], ◌∷◌, ◌++◌, map, ℕ, zero, suc, ◌+◌, ◌*◌, ◌≤◌, ◌<◌, eqb, Some}
use Rattle.std.proofs.Common.{sym, ap, ap₂, ◌∙◌, ⊎_elim, arith}
use Rattle.strided.specs.Base.{over, nth, run}
use Rattle.laws.specs.Base.Ranges.{below_or}
use Rattle.laws.specs.Base.Sums.{sum-append, sum_pos, pos_sum, sum_twice}
use Rattle.laws.specs.Base.Counting.{same_list, count, same_list_refl, same_list_pos}
use Rattle.judge.specs.Judge.{same, often}

-- `often` is the `count` of the laws
same_is : (x y : List ℕ) → cond (same x y) 1 0 ≡ same_list x y
same_is [] [] = refl
same_is [] (y ∷ ys) = refl
same_is (x ∷ xs) [] = refl
same_is (x ∷ xs) (y ∷ ys) = go (eqb x y) (same_is xs ys)
  where
    go : (b : Bool) → cond (same xs ys) 1 0 ≡ same_list xs ys → cond (b && same xs ys) 1 0 ≡ cond b 1 0 * same_list xs ys
    go true e = omega (arith, e)
    go false e = omega arith

module _ (x : List ℕ) where
  pub often-count : (l : List (List ℕ)) → often x l ≡ count x l
  often-count [] = refl
  often-count (y ∷ l) = ap₂ (λ (a b : ℕ). a + b) (same_is x y) (often-count l)

  pub count-append : (l m : List (List ℕ)) → count x (l ++ m) ≡ count x l + count x m
  count-append l m = sum-append l m (same_list x)

  -- one that is counted is there, and back
  pub counted : (l : List (List ℕ)) → 0 < count x l → (n : ℕ) × (nth l n ≡ Some x)
  counted l h =
      let r = sum_pos (same_list x) l h in
      let e : x ≡ r.1 = same_list_pos x r.1 r.3 in
      (r.0, r.2 ∙ ap (λ (y : List ℕ). Some y) (sym e))

  pub there : (l : List (List ℕ)) (n : ℕ) → nth l n ≡ Some x → 0 < count x l
  there l n e = pos_sum (same_list x) l n x e (omega (arith, same_list_refl x))

  -- at two places: counted twice
  pub there_twice : (l : List (List ℕ)) (n m : ℕ) → nth l n ≡ Some x → nth l m ≡ Some x → n < m → 1 < count x l
  there_twice l n m e f h = sum_twice (same_list x) l n m x x e f h (omega (arith, same_list_refl x)) (omega (arith, same_list_refl x))

  nowhere : (l : List (List ℕ)) → ((n : ℕ) → nth l n ≡ Some x → ⊥) → count x l ≡ 0
  nowhere l none = ⊎_elim (λ (h : 0 < count x l). absurd (none (counted l h).0 (counted l h).1)) (λ (h : count x l ≤ 0). omega arith) (below_or 0 (count x l))

  -- at one place and at no other: counted once
  pub once : (l : List (List ℕ)) (n : ℕ) → nth l n ≡ Some x → ((m : ℕ) → nth l m ≡ Some x → m ≡ n) → count x l ≡ 1
  once [] n e u = let z : ◌≡◌ {A = ℕ} 0 1 = cc in absurd (omega arith)
  once (y ∷ l) zero e u =
      let q : y ≡ x = cc in
      let s : same_list x y ≡ 1 = ap (same_list x) q ∙ same_list_refl x in
      let r : count x l ≡ 0 = nowhere l (λ m g. (let z : suc m ≡ 0 = u (suc m) g in absurd (omega arith))) in
      omega (arith, s, r)
  once (y ∷ l) (suc n) e u =
      let r : count x l ≡ 1 = once l n e (λ m g. (let z : suc m ≡ suc n = u (suc m) g in omega arith)) in
      ⊎_elim
      (λ (h : 0 < same_list x y). (
      let q : x ≡ y = same_list_pos x y h in
      let z : 0 ≡ suc n = u 0 (ap (λ (w : List ℕ). Some w) (sym q)) in
      absurd (omega arith)))
      (λ (h : same_list x y ≤ 0). omega (arith, r, h))
      (below_or 0 (same_list x y))

  pub once_only : (l : List (List ℕ)) (n m : ℕ) → count x l ≤ 1 → nth l n ≡ Some x → nth l m ≡ Some x → n ≡ m
  once_only l n m c e f =
      ⊎_elim (λ (h : n < m). absurd (omega (arith, there_twice l n m e f h)))
      (λ (h : m ≤ n).
      ⊎_elim (λ (g : m < n). absurd (omega (arith, there_twice l m n f e g))) (λ (g : n ≤ m). omega arith) (below_or m n))
      (below_or n m)

-- ---- lists joined: element i gives the list f of it, and x stands at k in that

pub record Stands {A : Type 0} (xs : List A) (f : A → List (List ℕ)) (i k : ℕ) (x : List ℕ) : Type 0 where
  pub of : A
  pub element : nth xs i ≡ Some of
  pub inside : nth (f of) k ≡ Some x

module _ {A : Type 0} (f : A → List (List ℕ)) (x : List ℕ) where
  next_stands : (a : A) (xs : List A) (i k : ℕ) → Stands xs f i k x → Stands (a ∷ xs) f (suc i) k x
  next_stands a xs i k s = record { of = s.of; element = s.element; inside = s.inside }

  last_stands : (a : A) (xs : List A) (i k : ℕ) → Stands (a ∷ xs) f (suc i) k x → Stands xs f i k x
  last_stands a xs i k s = record { of = s.of; element = s.element; inside = s.inside }

  first_stands : (a : A) (xs : List A) (k : ℕ) → nth (f a) k ≡ Some x → Stands (a ∷ xs) f 0 k x
  first_stands a xs k e = record { of = a; element = refl; inside = e }

  pub stands_counted : (xs : List A) (i k : ℕ) → Stands xs f i k x → 0 < count x (over xs f)
  stands_counted [] i k s = let q = s.element in let z : ◌≡◌ {A = ℕ} 0 1 = cc q in absurd (omega arith)
  stands_counted (a ∷ xs) zero k s =
      let q = s.element in
      let e : a ≡ s.of = cc q in
      let g : nth (f a) k ≡ Some x = ap (λ (b : A). nth (f b) k) e ∙ s.inside in
      omega (arith, count-append x (f a) (over xs f), there x (f a) k g)
  stands_counted (a ∷ xs) (suc i) k s = omega (arith, count-append x (f a) (over xs f), stands_counted xs i k (last_stands a xs i k s))

  pub counted_stands : (xs : List A) → 0 < count x (over xs f) → (i : ℕ) × (k : ℕ) × Stands xs f i k x
  counted_stands [] h = absurd (omega arith)
  counted_stands (a ∷ xs) h = go (counted_stands xs)
    where
      go : (0 < count x (over xs f) → (i : ℕ) × (k : ℕ) × Stands xs f i k x) → (i : ℕ) × (k : ℕ) × Stands (a ∷ xs) f i k x
      go ih = ⊎_elim
          (λ (g : 0 < count x (f a)). (let r = counted x (f a) g in (0, r.0, first_stands a xs r.0 r.1)))
          (λ (g : count x (f a) ≤ 0). (let r = ih (omega (arith, count-append x (f a) (over xs f), g, h)) in (suc r.0, r.1, next_stands a xs r.0 r.1 r.2)))
          (below_or 0 (count x (f a)))

  empty : (l : List (List ℕ)) → (0 < count x l → ⊥) → count x l ≡ 0
  empty l none = ⊎_elim (λ (h : 0 < count x l). absurd (none h)) (λ (h : count x l ≤ 0). omega arith) (below_or 0 (count x l))

  -- EXACTLY ONCE: at one place and at no other
  pub once_stands : (xs : List A) (i k : ℕ) → Stands xs f i k x → ((j l : ℕ) → Stands xs f j l x → (j ≡ i) × (l ≡ k)) → count x (over xs f) ≡ 1
  once_stands [] i k s u = let q = s.element in let z : ◌≡◌ {A = ℕ} 0 1 = cc q in absurd (omega arith)
  once_stands (a ∷ xs) zero k s u =
      let q = s.element in
      let e : a ≡ s.of = cc q in
      let g : nth (f a) k ≡ Some x = ap (λ (b : A). nth (f b) k) e ∙ s.inside in
      let p : count x (f a) ≡ 1 = once x (f a) k g (λ m h. (u 0 m (first_stands a xs m h)).1) in
      let r : count x (over xs f) ≡ 0 =
      empty (over xs f) (λ h.
      let w = counted_stands xs h in
      let z : suc w.0 ≡ 0 = (u (suc w.0) w.1 (next_stands a xs w.0 w.1 w.2)).0 in
      absurd (omega arith)) in
      omega (arith, count-append x (f a) (over xs f), p, r)
  once_stands (a ∷ xs) (suc i) k s u =
      let r : count x (over xs f) ≡ 1 =
      once_stands xs i k (last_stands a xs i k s) (λ j l h.
      let w = u (suc j) l (next_stands a xs j l h) in
      let z : suc j ≡ suc i = w.0 in
      (omega arith, w.1)) in
      let p : count x (f a) ≡ 0 =
      empty (f a) (λ h.
      let w = counted x (f a) h in
      let z : 0 ≡ suc i = (u 0 w.0 (first_stands a xs w.0 w.1)).0 in
      absurd (omega arith)) in
      omega (arith, count-append x (f a) (over xs f), p, r)

  -- and back
  pub stands_once : (xs : List A) (i k j l : ℕ) → count x (over xs f) ≤ 1 → Stands xs f i k x → Stands xs f j l x → (i ≡ j) × (k ≡ l)
  stands_once [] i k j l c s t = let q = s.element in let z : ◌≡◌ {A = ℕ} 0 1 = cc q in absurd (omega arith)
  stands_once (a ∷ xs) zero k zero l c s t =
      let q = s.element in
      let r = t.element in
      let e : a ≡ s.of = cc q in
      let d : a ≡ t.of = cc r in
      let g : nth (f a) k ≡ Some x = ap (λ (b : A). nth (f b) k) e ∙ s.inside in
      let h : nth (f a) l ≡ Some x = ap (λ (b : A). nth (f b) l) d ∙ t.inside in
      (refl, once_only x (f a) k l (omega (arith, c, count-append x (f a) (over xs f))) g h)
  stands_once (a ∷ xs) zero k (suc j) l c s t =
      let q = s.element in
      let e : a ≡ s.of = cc q in
      let g : nth (f a) k ≡ Some x = ap (λ (b : A). nth (f b) k) e ∙ s.inside in
      absurd (omega (arith, c, count-append x (f a) (over xs f), there x (f a) k g, stands_counted xs j l (last_stands a xs j l t)))
  stands_once (a ∷ xs) (suc i) k zero l c s t =
      let q = t.element in
      let e : a ≡ t.of = cc q in
      let g : nth (f a) l ≡ Some x = ap (λ (b : A). nth (f b) l) e ∙ t.inside in
      absurd (omega (arith, c, count-append x (f a) (over xs f), there x (f a) l g, stands_counted xs i k (last_stands a xs i k s)))
  stands_once (a ∷ xs) (suc i) k (suc j) l c s t =
      let r = stands_once xs i k j l (omega (arith, c, count-append x (f a) (over xs f))) (last_stands a xs i k s) (last_stands a xs j l t) in
      (ap suc r.0, r.1)

-- ---- a mapped run of numbers

pub nth-run : {B : Type 0} (f : ℕ → B) (n s k : ℕ) → k < n → nth (map f (run s n)) k ≡ Some (f (s + k))
nth-run f zero s k h = absurd (omega arith)
nth-run f (suc n) s zero h = let e : s ≡ s + 0 = omega arith in ap (λ (j : ℕ). Some (f j)) e
nth-run f (suc n) s (suc k) h = let e : suc s + k ≡ s + suc k = omega arith in nth-run f n (suc s) k (omega arith) ∙ ap (λ (j : ℕ). Some (f j)) e

pub run-nth : {B : Type 0} (f : ℕ → B) (n s k : ℕ) (y : B) → nth (map f (run s n)) k ≡ Some y → (k < n) × (y ≡ f (s + k))
run-nth f zero s k y e = let z : ◌≡◌ {A = ℕ} 0 1 = cc in absurd (omega arith)
run-nth f (suc n) s zero y e =
    let q : f s ≡ y = cc in
    let r : s ≡ s + 0 = omega arith in
    (omega arith, sym q ∙ ap f r)
run-nth f (suc n) s (suc k) y e =
    let w = run-nth f n (suc s) k y e in
    let r : suc s + k ≡ s + suc k = omega arith in
    (omega arith, w.1 ∙ ap f r)

-- ---- twice: at two places

pub twice_there : (x : List ℕ) (l : List (List ℕ)) → 1 < count x l → (n : ℕ) × (m : ℕ) × (nth l n ≡ Some x) × (nth l m ≡ Some x) × (n < m)
twice_there x [] h = absurd (omega arith)
twice_there x (y ∷ l) h = go (twice_there x l)
  where
    go : (1 < count x l → (n : ℕ) × (m : ℕ) × (nth l n ≡ Some x) × (nth l m ≡ Some x) × (n < m))
        → (n : ℕ) × (m : ℕ) × (nth (y ∷ l) n ≡ Some x) × (nth (y ∷ l) m ≡ Some x) × (n < m)
    go ih = ⊎_elim
        (λ (g : 0 < same_list x y). (
        let e : x ≡ y = same_list_pos x y g in
        let s : same_list x y ≡ 1 = ap (same_list x) (sym e) ∙ same_list_refl x in
        let r = counted x l (omega (arith, h, s)) in
        (0, suc r.0, ap (λ (w : List ℕ). Some w) (sym e), r.1, omega arith)))
        (λ (g : same_list x y ≤ 0). (
        let r = ih (omega (arith, h, g)) in
        let t : r.0 < r.1 = r.4 in
        (suc r.0, suc r.1, r.2, r.3, omega arith)))
        (below_or 0 (same_list x y))

module _ {A : Type 0} (f : A → List (List ℕ)) (x : List ℕ) where
  pub twice_stands : (xs : List A) → 1 < count x (over xs f)
      → (i : ℕ) × (k : ℕ) × (j : ℕ) × (l : ℕ) × Stands xs f i k x × Stands xs f j l x × ((i ≡ j) × (k ≡ l) → ⊥)
  twice_stands [] h = absurd (omega arith)
  twice_stands (a ∷ xs) h = go (twice_stands xs)
    where
      goal : Type 0
      goal = (i : ℕ) × (k : ℕ) × (j : ℕ) × (l : ℕ) × Stands (a ∷ xs) f i k x × Stands (a ∷ xs) f j l x × ((i ≡ j) × (k ≡ l) → ⊥)

      go : (1 < count x (over xs f) → (i : ℕ) × (k : ℕ) × (j : ℕ) × (l : ℕ) × Stands xs f i k x × Stands xs f j l x × ((i ≡ j) × (k ≡ l) → ⊥))
          → (i : ℕ) × (k : ℕ) × (j : ℕ) × (l : ℕ) × Stands (a ∷ xs) f i k x × Stands (a ∷ xs) f j l x × ((i ≡ j) × (k ≡ l) → ⊥)
      go ih = ⊎_elim
          (λ (g : 1 < count x (f a)). (
          let r = twice_there x (f a) g in
          let t : r.0 < r.1 = r.4 in
          (0, r.0, 0, r.1, first_stands f x a xs r.0 r.2, first_stands f x a xs r.1 r.3, λ e. (let q : r.0 ≡ r.1 = e.1 in omega arith))))
          (λ (g : count x (f a) ≤ 1).
          ⊎_elim
          (λ (p : 0 < count x (f a)). (
          let r = counted x (f a) p in
          let w = counted_stands f x xs (omega (arith, h, g, count-append x (f a) (over xs f))) in
          (0, r.0, suc w.0, w.1, first_stands f x a xs r.0 r.1, next_stands f x a xs w.0 w.1 w.2, λ e. (let q : 0 ≡ suc w.0 = e.0 in absurd (omega arith)))))
          (λ (p : count x (f a) ≤ 0). (
          let w = ih (omega (arith, h, p, count-append x (f a) (over xs f))) in (
            suc w.0,
            w.1,
            suc w.2,
            w.3,
            next_stands f x a xs w.0 w.1 w.4,
            next_stands f x a xs w.2 w.3 w.5,
            λ e. w.6 ((let q : suc w.0 ≡ suc w.2 = e.0 in omega arith), e.1),
          )))
          (below_or 0 (count x (f a))))
          (below_or 1 (count x (f a)))
