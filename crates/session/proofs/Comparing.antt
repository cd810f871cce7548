-- Loops that compare: the bits gathered of the places so far, which are none exactly if these are the same. Assumes nothing.
use mathlib.Core.Path.{◌≡◌, refl, sym, ap, ap₂, ◌∙◌, subst}
use mathlib.Core.Bool.{Bool, true, false, ◌&&◌, and_assoc}
use mathlib.Core.List.{List, [], ◌∷◌, ◌++◌}
use mathlib.Core.Logic.{⊎_elim}
use Prim.Native.Nat.{ℕ, zero, suc, ◌+◌, ◌≤◌, ◌<◌}
use native.Mathlib.Nat.{eq-or-lt_of_le}
use native.Mathlib.Omega.{arith}
use lib.Bits.{bit_or, bit_xor, or_add_and, xor_add_and, and_le_l, and_le_r, xor_self}
use lib.Dec.{eqb}
use lib.ListN.{length, get_or, take, drop, length-drop, take-append-drop}
use lib.Seq.{get_or-take, length-take-le}
use borrow.Author.Tests.{eqb-true, eqb-false, eq-eqb, ne_eqb}
use Rattle.strided.specs.Step.{blank}
use Rattle.laws.specs.Base.Tests.{and_both}
use Rattle.session.specs.Session.{same_nats}
use Rattle.session.specs.Same.{NoneDiffer}

-- two numbers differ in no bit exactly if they are the same
pub xor_none : (a b : ℕ) → eqb (bit_xor a b) 0 ≡ eqb a b
xor_none a b = go (eqb a b) refl
  where
    go : (x : Bool) → eqb a b ≡ x → eqb (bit_xor a b) 0 ≡ x
    go true p = eq-eqb (bit_xor a b) 0 (ap (bit_xor a) (sym (eqb-true a b p)) ∙ xor_self a)
    go false p = ne_eqb (bit_xor a b) 0 (λ e. eqb-false a b p (omega (arith, xor_add_and a b, and_le_l a b, and_le_r a b, e)))

-- ---- bits that are gathered, where P says which bits a place has

pub record Gathered (P : ℕ → ℕ → Type 0) (seen n : ℕ) : Type 0 where
  pub none : seen ≡ 0 → (i : ℕ) → i < n → P i 0
  pub some : (seen ≡ 0 → ⊥) → (i : ℕ) × (x : ℕ) × (i < n) × P i x × (x ≡ 0 → ⊥)

pub gathered_none : (P : ℕ → ℕ → Type 0) → Gathered P 0 0
gathered_none P = record { none = λ e i h. absurd (omega arith); some = λ f. absurd (f refl) }

pub gathered_more : (P : ℕ → ℕ → Type 0) (seen n x : ℕ) → Gathered P seen n → P n x → Gathered P (bit_or seen x) (n + 1)
gathered_more P seen n x g p =
    record {
      none = λ e i h.
          let s : seen ≡ 0 = omega (arith, or_add_and seen x, and_le_r seen x, e) in
          let z : x ≡ 0 = omega (arith, or_add_and seen x, and_le_l seen x, e) in
          let le : i ≤ n = omega arith in
          ⊎_elim (λ (k : i ≡ n). subst (λ (j : ℕ). P j 0) (sym k) (subst (P n) z p)) (λ (k : i < n). g.none s i k) (eq-or-lt_of_le le);
      some = λ f. go (eqb seen 0) refl f;
    }
  where
    go : (b : Bool) → eqb seen 0 ≡ b → (bit_or seen x ≡ 0 → ⊥) → (i : ℕ) × (y : ℕ) × (i < n + 1) × P i y × (y ≡ 0 → ⊥)
    go true q f = let s = eqb-true seen 0 q in (n, x, omega arith, p, λ z. f (omega (arith, or_add_and seen x, s, z)))
    go false q f = let w = g.some (eqb-false seen 0 q) in (w.0, w.1, omega (arith, w.2), w.3, w.4)

pub gathered_end : (P : ℕ → ℕ → Type 0) (seen n m : ℕ) → n ≡ m → Gathered P seen n → NoneDiffer P m (eqb seen 0)
gathered_end P seen n m e g =
    subst (λ (k : ℕ). NoneDiffer P k (eqb seen 0)) e (record { all = λ q. g.none (eqb-true seen 0 q); one = λ q. g.some (eqb-false seen 0 q) })

-- ---- lists that are compared place by place, by a test of two places

module _ {A : Type 0} (d : A) (test : A → A → Bool) (same : List A → List A → Bool) (nil : same [] [] ≡ true)
    (cons : (x y : A) (xs ys : List A) → same (x ∷ xs) (y ∷ ys) ≡ (test x y && same xs ys)) where
  all_same : (xs ys : List A) → length xs ≡ length ys → ((i : ℕ) → i < length xs → test (get_or xs i d) (get_or ys i d) ≡ true) → same xs ys ≡ true
  all_same [] [] e h = nil
  all_same [] (y ∷ ys) e h = absurd (omega (arith, e))
  all_same (x ∷ xs) [] e h = absurd (omega (arith, e))
  all_same (x ∷ xs) (y ∷ ys) e h = cons x y xs ys ∙ ap₂ (λ (a b : Bool). a && b) (h 0 (omega arith)) (all_same xs ys (omega (arith, e)) (λ i k. h (suc i) (omega arith)))

  one_other : (xs ys : List A) → length xs ≡ length ys → (i : ℕ) → i < length xs → test (get_or xs i d) (get_or ys i d) ≡ false → same xs ys ≡ false
  one_other [] ys e i h t = absurd (omega arith)
  one_other (x ∷ xs) [] e i h t = absurd (omega (arith, e))
  one_other (x ∷ xs) (y ∷ ys) e zero h t = cons x y xs ys ∙ ap (λ (a : Bool). a && same xs ys) t
  one_other (x ∷ xs) (y ∷ ys) e (suc i) h t = cons x y xs ys ∙ ap (λ (b : Bool). test x y && b) (one_other xs ys (omega (arith, e)) i (omega arith) t) ∙ and_false (test x y)
    where
      and_false : (a : Bool) → (a && false) ≡ false
      and_false true = refl
      and_false false = refl

  -- one behind the other they are compared one after the other
  pub same_append : (ps bs xs ys : List A) → length ps ≡ length xs → same (ps ++ bs) (xs ++ ys) ≡ (same ps xs && same bs ys)
  same_append [] bs [] ys e = ap (λ (r : Bool). r && same bs ys) (sym nil)
  same_append [] bs (x ∷ xs) ys e = absurd (omega (arith, e))
  same_append (p ∷ ps) bs [] ys e = absurd (omega (arith, e))
  same_append (p ∷ ps) bs (x ∷ xs) ys e =
      cons p x (ps ++ bs) (xs ++ ys)
      ∙ ap (λ (r : Bool). test p x && r) (same_append ps bs xs ys (omega (arith, e)))
      ∙ sym (and_assoc (test p x) (same ps xs) (same bs ys))
      ∙ ap (λ (r : Bool). r && same bs ys) (sym (cons p x ps xs))

  -- the bits of a place are none exactly if the test says that the two are the same
  pub none_same : (xs ys : List A) {P : ℕ → ℕ → Type 0} {r : Bool} {n : ℕ} → NoneDiffer P n r → length xs ≡ n → length ys ≡ n
      → ((i x : ℕ) → i < n → P i x → eqb x 0 ≡ test (get_or xs i d) (get_or ys i d)) → r ≡ same xs ys
  none_same xs ys {P} {r} {n} told ex ey is = go r told
    where
      even : length xs ≡ length ys
      even = ex ∙ sym ey

      go : (r : Bool) → NoneDiffer P n r → r ≡ same xs ys
      go true t = sym (all_same xs ys even (λ i h. let l : i < n = omega (arith, h, ex) in sym (is i 0 l (t.all refl i l))))
      go false t = let w = t.one refl in sym (one_other xs ys even w.0 (omega (arith, w.2, ex)) (sym (is w.0 w.1 w.2 w.3) ∙ ne_eqb w.1 0 w.4))

  -- the first n places of two lists, and the rest of them
  pub front_same : (xs ys : List A) {P : ℕ → ℕ → Type 0} {seen : Bool} {n : ℕ} → NoneDiffer P n seen → n ≤ length xs → n ≤ length ys
      → ((i x : ℕ) → i < n → P i x → eqb x 0 ≡ test (get_or xs i d) (get_or ys i d)) → {rest : Bool} → rest ≡ same (drop n xs) (drop n ys)
      → (seen && rest) ≡ same xs ys
  front_same xs ys {P} {seen} {n} told hx hy is {rest} r =
      let lx : length (take n xs) ≡ n = length-take-le n xs hx in
      let ly : length (take n ys) ≡ n = length-take-le n ys hy in
      ap₂ (λ (a b : Bool). a && b)
      (none_same (take n xs) (take n ys) {P = P} told lx ly (λ i x h p. is i x h p ∙ ap₂ test (sym (get_or-take n xs i d h)) (sym (get_or-take n ys i d h)))) r
      ∙ sym (same_append (take n xs) (drop n xs) (take n ys) (drop n ys) (lx ∙ sym ly))
      ∙ ap₂ same (take-append-drop n xs) (take-append-drop n ys)

-- ---- numbers that are compared with some that are 0 from a place on

same_blank : (xs zs : List ℕ) → length xs ≡ length zs → blank zs ≡ true → same_nats xs zs ≡ blank xs
same_blank [] [] e h = refl
same_blank [] (z ∷ zs) e h = absurd (omega (arith, e))
same_blank (x ∷ xs) [] e h = absurd (omega (arith, e))
same_blank (x ∷ xs) (z ∷ zs) e h =
    let b = and_both (eqb z 0) (blank zs) h in
    ap₂ (λ (a c : Bool). a && c) (ap (eqb x) (eqb-true z 0 b.0)) (same_blank xs zs (omega (arith, e)) b.1)

pub nats_over : (xs zs : List ℕ) {P : ℕ → ℕ → Type 0} {seen : Bool} {n : ℕ} → NoneDiffer P n seen → n ≤ length xs → length xs ≡ length zs
    → ((i x : ℕ) → i < n → P i x → eqb x 0 ≡ eqb (get_or xs i 0) (get_or zs i 0)) → blank (drop n zs) ≡ true → {rest : Bool} → rest ≡ blank (drop n xs)
    → (seen && rest) ≡ same_nats xs zs
nats_over xs zs {P} {seen} {n} told h e is z {rest} r =
    front_same 0 eqb same_nats refl (λ x y xs ys. refl) xs zs {P = P} told h (omega (arith, h, e)) is
    (r ∙ sym (same_blank (drop n xs) (drop n zs) (omega (arith, length-drop n xs, length-drop n zs, e)) z))
