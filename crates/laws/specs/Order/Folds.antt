-- Sums and products over axes do not depend on the order: one law over the operation, and the total and the offset by it.
-- Assumes nothing.
use Rattle.std.specs.Prelude.{◌≡◌, refl, List, [], ◌∷◌, ℕ, zero, suc, ◌*◌, ℤ, pos, ◌+ℤ◌, ◌*ℤ◌, length, get_or}
use Rattle.std.proofs.Common.{sym, ap, ◌∙◌, mul_left_comm, arith}
use Rattle.strided.specs.Base.{run}
use Rattle.strided.specs.Layout.{dot, total}
use Rattle.strided.specs.Order.{pick}
use Rattle.laws.specs.Base.Integers.{+ℤ-left-comm}
use Rattle.laws.specs.Order.Permutation.{Ins, Permutes, take_out, taken_out, run_permutes}
use Rattle.laws.specs.Order.Permutation.Ins.{here, there}

-- f a, f b, .. joined by an operation
abbrev pub fold_by : {A : Type 0} → (A → A → A) → A → (ℕ → A) → List ℕ → A
fold_by op z f [] = z
fold_by op z f (a ∷ o) = op (f a) (fold_by op z f o)

module _ {A : Type 0} (op : A → A → A) (z : A) where
  fold_shift : (f : ℕ → A) (n s : ℕ) → fold_by op z f (run (suc s) n) ≡ fold_by op z (λ (i : ℕ). f (suc i)) (run s n)
  fold_shift f zero s = refl
  fold_shift f (suc n) s = ap (op (f (suc s))) (fold_shift f n (suc s))

  module _ (swap : (a b c : A) → op a (op b c) ≡ op b (op a c)) (f : ℕ → A) where
    fold_ins : {x : ℕ} {xs ys : List ℕ} → Ins x xs ys → fold_by op z f ys ≡ op (f x) (fold_by op z f xs)
    fold_ins here = refl
    fold_ins {x} (there {y} {xs} i) = ap (op (f y)) (fold_ins i) ∙ swap (f y) (f x) (fold_by op z f xs)

    fold_permuted : (n : ℕ) (o r : List ℕ) → Permutes n o → Permutes n r → fold_by op z f o ≡ fold_by op z f r
    fold_permuted zero [] [] p q = refl
    fold_permuted zero (a ∷ o) r p q = absurd (omega (arith, p.many))
    fold_permuted zero [] (b ∷ r) p q = absurd (omega (arith, q.many))
    fold_permuted (suc n) o r p q =
        let i = take_out n o (p.has n (omega arith)) in
        let j = take_out n r (q.has n (omega arith)) in
        fold_ins i.1 ∙ ap (op (f n)) (fold_permuted n i.0 j.0 (taken_out i.1 p) (taken_out j.1 q)) ∙ sym (fold_ins j.1)

  -- F joins what g makes of each element
  module _ (swap : (a b c : A) → op a (op b c) ≡ op b (op a c)) {B : Type 0} (d : B) (g : B → A) (F : List B → A)
      (nil : F [] ≡ z) (cons : (x : B) (xs : List B) → F (x ∷ xs) ≡ op (g x) (F xs)) where
    fold_pick : (xs : List B) (o : List ℕ) → F (pick d xs o) ≡ fold_by op z (λ (a : ℕ). g (get_or xs a d)) o
    fold_pick xs [] = nil
    fold_pick xs (a ∷ o) = cons (get_or xs a d) (pick d xs o) ∙ ap (op (g (get_or xs a d))) (fold_pick xs o)

    fold_all : (xs : List B) → fold_by op z (λ (a : ℕ). g (get_or xs a d)) (run 0 (length xs)) ≡ F xs
    fold_all [] = sym nil
    fold_all (x ∷ xs) =
        ap (op (g x)) (fold_shift (λ (a : ℕ). g (get_or (x ∷ xs) a d)) (length xs) 0 ∙ fold_all xs) ∙ sym (cons x xs)

    pub picked_fold : (xs : List B) (o : List ℕ) → Permutes (length xs) o → F (pick d xs o) ≡ F xs
    picked_fold xs o p =
        fold_pick xs o ∙ fold_permuted swap (λ (a : ℕ). g (get_or xs a d)) (length xs) o (run 0 (length xs)) p (run_permutes (length xs)) ∙ fold_all xs

-- the total
pub picked-total : (es o : List ℕ) → Permutes (length es) o → total (pick 0 es o) ≡ total es
picked-total es o p = picked_fold ◌*◌ 1 mul_left_comm 0 (λ e. e) total refl (λ e r. refl) es o p

-- the offset of an index
module _ (is : List ℕ) (ss : List ℤ) where
  dot-pick : (r : List ℕ) → dot (pick 0 is r) (pick (pos 0) ss r) ≡ fold_by ◌+ℤ◌ (pos 0) (λ (a : ℕ). pos (get_or is a 0) *ℤ get_or ss a (pos 0)) r
  dot-pick [] = refl
  dot-pick (a ∷ r) = ap (λ (z : ℤ). pos (get_or is a 0) *ℤ get_or ss a (pos 0) +ℤ z) (dot-pick r)

dot-all : (is : List ℕ) (ss : List ℤ) → length is ≡ length ss → fold_by ◌+ℤ◌ (pos 0) (λ (a : ℕ). pos (get_or is a 0) *ℤ get_or ss a (pos 0)) (run 0 (length is)) ≡ dot is ss
dot-all [] ss e = refl
dot-all (i ∷ is) [] e = absurd (omega arith)
dot-all (i ∷ is) (s ∷ ss) e =
    ap (λ (z : ℤ). pos i *ℤ s +ℤ z) (fold_shift ◌+ℤ◌ (pos 0) (λ (a : ℕ). pos (get_or (i ∷ is) a 0) *ℤ get_or (s ∷ ss) a (pos 0)) (length is) 0 ∙ dot-all is ss (omega arith))

pub picked-dot : (is : List ℕ) (ss : List ℤ) (o : List ℕ) → length is ≡ length ss → Permutes (length is) o → dot (pick 0 is o) (pick (pos 0) ss o) ≡ dot is ss
picked-dot is ss o e p =
    dot-pick is ss o
    ∙ fold_permuted ◌+ℤ◌ (pos 0) +ℤ-left-comm (λ (a : ℕ). pos (get_or is a 0) *ℤ get_or ss a (pos 0)) (length is) o (run 0 (length is)) p (run_permutes (length is))
    ∙ dot-all is ss e
