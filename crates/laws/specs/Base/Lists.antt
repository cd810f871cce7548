-- Lists: a claim on each element, the elements by number, lists joined, and runs of numbers.
-- Assumes nothing.
use Rattle.std.specs.Prelude.{◌≡◌, refl, ◌↔◌, List, [], ◌∷◌, ◌++◌, map, ℕ, zero, suc, ◌+◌, ◌≤◌, ◌<◌, length, get_or, take, drop, None, Some}
use Rattle.std.proofs.Common.{sym, ap, ap₂, ◌∙◌, append_assoc, append-nil, zero-add, add-zero, suc-add, arith}
use Rattle.strided.specs.Base.{over, nth, run}

-- ---- P holds of each element

abbrev pub All : {A : Type 0} → (A → Type 0) → List A → Type 0
All P [] = Unit {0}
All P (x ∷ xs) = P x × All P xs

pub all_unit : {A : Type 0} (xs : List A) → All (λ (x : A). Unit {0}) xs
all_unit [] = tt
all_unit (x ∷ xs) = (tt, all_unit xs)

all_append : {B : Type 0} (P : B → Type 0) (xs ys : List B) → All P xs → All P ys → All P (xs ++ ys)
all_append P [] ys h k = k
all_append P (x ∷ xs) ys h k = (h.0, all_append P xs ys h.1 k)

module _ {A B : Type 0} (P : A → Type 0) (Q : B → Type 0) where
  pub all_map : (f : A → B) (xs : List A) → ((x : A) → P x → Q (f x)) → All P xs → All Q (map f xs)
  all_map f [] h k = tt
  all_map f (x ∷ xs) h k = (h x k.0, all_map f xs h k.1)

  pub all-over : (f : A → List B) (xs : List A) → ((x : A) → P x → All Q (f x)) → All P xs → All Q (over xs f)
  all-over f [] h k = tt
  all-over f (x ∷ xs) h k = all_append Q (f x) (over xs f) (h x k.0) (all-over f xs h k.1)

-- ---- the element of a number

pub nth-map : {A B : Type 0} (f : A → B) (l : List A) (j : ℕ) (x : A) → nth l j ≡ Some x → nth (map f l) j ≡ Some (f x)
nth-map f [] j x e = let z : ◌≡◌ {A = ℕ} 0 1 = cc in absurd (omega arith)
nth-map f (a ∷ l) zero x e = let q : a ≡ x = cc in ap (λ b. Some (f b)) q
nth-map f (a ∷ l) (suc j) x e = nth-map f l j x e

pub nth_none : {A : Type 0} (l : List A) (n : ℕ) → (nth l n ≡ None) ↔ (length l ≤ n)
nth_none [] n = (λ h. omega arith, λ h. refl)
nth_none (x ∷ l) zero = (λ h. let z : ◌≡◌ {A = ℕ} 0 1 = cc in absurd (omega arith), λ h. absurd (omega arith))
nth_none (x ∷ l) (suc n) = (λ h. let q = (nth_none l n).0 h in omega arith, λ h. (nth_none l n).1 (omega arith))

pub nth-before : {A : Type 0} (l : List A) (m i : ℕ) (x : A) → nth l m ≡ None → nth l i ≡ Some x → i < m
nth-before [] m i x p q = let z : ◌≡◌ {A = ℕ} 0 1 = cc in absurd (omega arith)
nth-before (a ∷ l) zero i x p q = let z : ◌≡◌ {A = ℕ} 0 1 = cc in absurd (omega arith)
nth-before (a ∷ l) (suc m) zero x p q = omega arith
nth-before (a ∷ l) (suc m) (suc i) x p q = omega (arith, nth-before l m i x p q)

pub nth-take : {A : Type 0} (l : List A) (n m : ℕ) → m < n → nth (take n l) m ≡ nth l m
nth-take l zero m h = absurd (omega arith)
nth-take [] (suc n) m h = refl
nth-take (x ∷ l) (suc n) zero h = refl
nth-take (x ∷ l) (suc n) (suc m) h = nth-take l n m (omega arith)

pub nth_drop : {A : Type 0} (l : List A) (n : ℕ) (x : A) → nth l n ≡ Some x → drop n l ≡ x ∷ drop (suc n) l
nth_drop [] n x e = let z : ◌≡◌ {A = ℕ} 0 1 = cc in absurd (omega arith)
nth_drop (y ∷ l) zero x e = let q : y ≡ x = cc in ap (λ a. a ∷ l) q
nth_drop (y ∷ l) (suc n) x e = nth_drop l n x e

-- ---- lists joined, and parts of a list

module _ {A B : Type 0} where
  pub over-append : (xs ys : List A) (f : A → List B) → over (xs ++ ys) f ≡ over xs f ++ over ys f
  over-append [] ys f = refl
  over-append (x ∷ xs) ys f = ap (λ (l : List B). f x ++ l) (over-append xs ys f) ∙ sym (append_assoc (f x) (over xs f) (over ys f))

  -- one element more
  pub over_last : (xs : List A) (x : A) (f : A → List B) → over (xs ++ (x ∷ [])) f ≡ over xs f ++ f x
  over_last xs x f = over-append xs (x ∷ []) f ∙ ap (λ (l : List B). over xs f ++ l) (append-nil (f x))

  pub map-take : (f : A → B) (n : ℕ) (l : List A) → map f (take n l) ≡ take n (map f l)
  map-take f zero l = refl
  map-take f (suc n) [] = refl
  map-take f (suc n) (x ∷ l) = ap (λ (r : List B). f x ∷ r) (map-take f n l)

  pub map-drop : (f : A → B) (n : ℕ) (l : List A) → map f (drop n l) ≡ drop n (map f l)
  map-drop f zero l = refl
  map-drop f (suc n) [] = refl
  map-drop f (suc n) (x ∷ l) = map-drop f n l

pub over-map : {A B C : Type 0} (f : A → B) (l : List A) (g : B → List C) → over (map f l) g ≡ over l (λ (x : A). g (f x))
over-map f [] g = refl
over-map {A} {B} {C} f (x ∷ l) g = ap (λ (r : List C). g (f x) ++ r) (over-map f l g)

-- ---- runs

pub length_run : (s n : ℕ) → length (run s n) ≡ n
length_run s zero = refl
length_run s (suc n) = ap suc (length_run (suc s) n)

pub run-append : (m n s : ℕ) → run s (m + n) ≡ run s m ++ run (s + m) n
run-append zero n s = simp (zero-add, add-zero)
run-append (suc m) n s =
    let k : suc s + m ≡ s + suc m = omega arith in
    ap (run s) (suc-add m n)
    ∙ ap {B = List ℕ} (λ r. s ∷ r) (run-append m n (suc s) ∙ ap (λ j. run (suc s) m ++ run j n) k)

pub run-all : (n s lo hi : ℕ) → lo ≤ s → s + n ≤ hi → All (λ k. (lo ≤ k) × (k < hi)) (run s n)
run-all zero s lo hi h k = tt
run-all (suc n) s lo hi h k = ((h, omega arith), run-all n (suc s) lo hi (omega arith) (omega arith))

-- two rules that agree on a run make one list
pub map_agree : {B : Type 0} (f g : ℕ → B) (s n : ℕ) → ((k : ℕ) → s ≤ k → k < s + n → f k ≡ g k) → map f (run s n) ≡ map g (run s n)
map_agree f g s zero h = refl
map_agree f g s (suc n) h =
    ap₂ (λ x r. x ∷ r) (h s (omega arith) (omega arith)) (map_agree f g (suc s) n (λ k a b. h k (omega arith) (omega arith)))

pub over_agree : {B : Type 0} (f g : ℕ → List B) (s n : ℕ) → ((k : ℕ) → s ≤ k → k < s + n → f k ≡ g k) → over (run s n) f ≡ over (run s n) g
over_agree f g s zero h = refl
over_agree f g s (suc n) h =
    ap₂ (λ x r. x ++ r) (h s (omega arith) (omega arith)) (over_agree f g (suc s) n (λ k a b. h k (omega arith) (omega arith)))

pub get_d_run : {B : Type 0} (f : ℕ → B) (d : B) (m s j : ℕ) → j < m → get_or (map f (run s m)) j d ≡ f (s + j)
get_d_run f d zero s j h = absurd (omega arith)
get_d_run f d (suc m) s zero h = let e : s + 0 ≡ s = omega arith in rw e
get_d_run f d (suc m) s (suc j) h = let e : s + suc j ≡ suc s + j = omega arith in rw e (get_d_run f d m (suc s) j (omega arith))
