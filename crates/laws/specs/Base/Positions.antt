-- Where an element stands in a list, counted by weights: what the elements before it weigh together. Loops over loops keep this simple:
-- an element of an inner loop stands behind all that the outer loop has passed, and what its own has.
-- Assumes nothing.
use Rattle.std.specs.Prelude.{◌≡◌, refl, List, [], ◌∷◌, ◌++◌, map, ℕ, ◌+◌, ◌*◌, length, Some}
use Rattle.std.proofs.Common.{sym, ap, ◌∙◌, append_assoc}
use Rattle.std.proofs.lemmas.List.{map-append}
use Rattle.strided.specs.Base.{over, nth}
use Rattle.laws.specs.Base.Lists.{over-append}
use Rattle.laws.specs.Base.Sums.{sum, sum-append, sum_cong, sum_ones, sum_scale, sum_scale_right, sum_over, sum-map}

-- x stands in l, and the elements before it weigh n
pub record Stands {A : Type 0} (f : A → ℕ) (l : List A) (n : ℕ) (x : A) : Type 0 where
  pub before : List A
  pub behind : List A
  pub split : l ≡ before ++ (x ∷ behind)
  pub weighs : sum before f ≡ n

module _ {A : Type 0} where
  pub stands_here : (f : A → ℕ) (l : List A) (y x : A) → y ≡ x → Stands f (y ∷ l) 0 x
  stands_here f l y x e = record { before = []; behind = l; split = ap (λ z. z ∷ l) e; weighs = refl }

  pub stands_there : (f : A → ℕ) (l : List A) (n m : ℕ) (y x : A) → f y + n ≡ m → Stands f l n x → Stands f (y ∷ l) m x
  stands_there f l n m y x e p =
      record { before = y ∷ p.before; behind = p.behind; split = ap (λ r. y ∷ r) p.split; weighs = ap (λ k. f y + k) p.weighs ∙ e }

  -- equal weights, another name of the number
  pub stands_as : (f g : A → ℕ) (l : List A) (n m : ℕ) (x : A) → ((y : A) → f y ≡ g y) → n ≡ m → Stands f l n x → Stands g l m x
  stands_as f g l n m x h e p =
      record { before = p.before; behind = p.behind; split = p.split; weighs = sym (sum_cong p.before f g h) ∙ p.weighs ∙ e }

  pub stands_scale : (f : A → ℕ) (l : List A) (n a : ℕ) (x : A) → Stands f l n x → Stands (λ y. a * f y) l (a * n) x
  stands_scale f l n a x p =
      record { before = p.before; behind = p.behind; split = p.split; weighs = sum_scale p.before f a ∙ ap (λ k. a * k) p.weighs }

  pub stands_scale_right : (f : A → ℕ) (l : List A) (n a : ℕ) (x : A) → Stands f l n x → Stands (λ y. f y * a) l (n * a) x
  stands_scale_right f l n a x p =
      record { before = p.before; behind = p.behind; split = p.split; weighs = sum_scale_right p.before f a ∙ ap (λ k. k * a) p.weighs }

  nth_split : (xs ys : List A) (x : A) → nth (xs ++ (x ∷ ys)) (length xs) ≡ Some x
  nth_split [] ys x = refl
  nth_split (y ∷ xs) ys x = nth_split xs ys x

  -- with weights of 1 it is the element of that number
  pub stands_nth : (l : List A) (n : ℕ) (x : A) → Stands (λ y. 1) l n x → nth l n ≡ Some x
  stands_nth l n x p =
      let e : length p.before ≡ n = sym (sum_ones p.before) ∙ p.weighs in
      ap (λ k. nth l k) (sym e) ∙ ap (λ k. nth k (length p.before)) p.split ∙ nth_split p.before p.behind x

module _ {A B : Type 0} where
  pub stands_map : (h : A → B) (f : B → ℕ) (l : List A) (n : ℕ) (x : A) → Stands (λ y. f (h y)) l n x → Stands f (map h l) n (h x)
  stands_map h f l n x p =
      record {
        before = map h p.before;
        behind = map h p.behind;
        split = ap (map h) p.split ∙ map-append h p.before (x ∷ p.behind);
        weighs = sum-map p.before h f ∙ p.weighs;
      }

  -- a loop in a loop: y in the list that u makes of x
  pub stands_over : (u : A → List B) (f : B → ℕ) (l : List A) (n m : ℕ) (x : A) (y : B)
      → Stands (λ z. sum (u z) f) l n x → Stands f (u x) m y → Stands f (over l u) (n + m) y
  stands_over u f l n m x y p q =
      record {
        before = over p.before u ++ q.before;
        behind = q.behind ++ over p.behind u;
        split = ap (λ k. over k u) p.split ∙ over-append p.before (x ∷ p.behind) u
            ∙ ap (λ k. over p.before u ++ (k ++ over p.behind u)) q.split
            ∙ simp append_assoc;
        weighs = sum-append (over p.before u) q.before f ∙ ap (λ k. k + sum q.before f) (sum_over p.before u f ∙ p.weighs)
            ∙ ap (λ k. n + k) q.weighs;
      }
