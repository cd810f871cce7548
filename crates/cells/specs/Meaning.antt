-- THE FOLD HAS THE MEANING: where cells lie apart the copy of a list is what its members say, so that every order of them, and every list
-- with the same members, gives the same bytes.
-- Assumes nothing.
use Rattle.std.specs.Prelude.{◌≡◌, refl, ◌⊎◌, Bool, true, false, List, [], ◌∷◌, ◌++◌, ℕ, zero, suc, ◌+◌, ◌-◌, ◌≤◌, ◌<◌, ltb, length, get_or, set}
use Rattle.std.proofs.Common.{sym, ap, ◌∙◌, subst, inl, inr, ⊎_elim, add-zero, arith, length-set, get_or-set_same, get_or-set_other, ext_get_or, ltb-true, ltb-false}
use Rattle.cells.specs.Copy.{Pair, pair, moved, copied, In, Same, AllIn, Clear, Apart, Off, Holds}

-- a test, as a case
pub by_lt : {P : Type 0} (a b : ℕ) → (a < b → P) → (b ≤ a → P) → P
by_lt {P} a b below above = go (ltb a b) refl
  where
    go : (t : Bool) → ltb a b ≡ t → P
    go true e = below (ltb-true a b e)
    go false e = above (ltb-false a b e)

-- ---- one cell

pub moved_length : (dst : List ℕ) (d : ℕ) (src : List ℕ) (s n : ℕ) → length (moved dst d src s n) ≡ length dst
unfolding moved
moved_length dst d src s zero = refl
moved_length dst d src s (suc n) = length-set (moved dst d src s n) (d + n) _ ∙ moved_length dst d src s n

-- a byte that is none of the cell's
pub moved-off : (dst : List ℕ) (d : ℕ) (src : List ℕ) (s n i : ℕ) → Off n d i → get_or (moved dst d src s n) i 0 ≡ get_or dst i 0
unfolding moved
moved-off dst d src s zero i h = refl
moved-off dst d src s (suc n) i h =
    get_or-set_other (moved dst d src s n) (d + n) i _ 0 (λ e. ⊎_elim (λ l. absurd (let z : ⊥ = omega (arith, l, e) in z)) (λ l. absurd (let z : ⊥ = omega (arith, l, e) in z)) h)
    ∙ moved-off dst d src s n i (⊎_elim (λ l. inl l) (λ l. inr (let g : d + n ≤ i = omega (arith, l) in g)) h)

-- and byte k of it
pub moved_at_lem : (dst : List ℕ) (d : ℕ) (src : List ℕ) (s n k : ℕ) → k < n → d + n ≤ length dst → get_or (moved dst d src s n) (d + k) 0 ≡ get_or src (s + k) 0
unfolding moved
moved_at_lem dst d src s zero k h f = absurd (let z : ⊥ = omega arith in z)
moved_at_lem dst d src s (suc n) k h f =
    by_lt k n
    (λ l. get_or-set_other (moved dst d src s n) (d + n) (d + k) _ 0 (let g : (d + k ≡ d + n → ⊥) = omega arith in g)
    ∙ moved_at_lem dst d src s n k l (let g : d + n ≤ length dst = omega arith in g))
    (λ l. let e : n ≡ k = omega arith in
    let r : d + n < length (moved dst d src s n) = subst (λ (m : ℕ). d + n < m) (sym (moved_length dst d src s n)) (let g : d + n < length dst = omega arith in g) in
    ap (λ (m : ℕ). get_or (set (moved dst d src s n) (d + n) (get_or src (s + n) 0)) (d + m) 0) (sym e)
    ∙ get_or-set_same (moved dst d src s n) (d + n) (get_or src (s + n) 0) 0 r
    ∙ ap (λ (m : ℕ). get_or src (s + m) 0) e)

pub moved_none : (dst : List ℕ) (d : ℕ) (src : List ℕ) (s : ℕ) → dst ≡ moved dst d src s 0
unfolding moved
moved_none dst d src s = refl

-- a move goes on where one ended
pub moved-add : (dst : List ℕ) (d : ℕ) (src : List ℕ) (s a b : ℕ) → moved (moved dst d src s a) (d + a) src (s + a) b ≡ moved dst d src s (a + b)
unfolding moved
moved-add dst d src s a zero = sym (ap (moved dst d src s) (add-zero a))
moved-add dst d src s a (suc b) =
    let e : d + a + b ≡ d + (a + b) = omega arith in
    let e' : s + a + b ≡ s + (a + b) = omega arith in
    let e'' : suc (a + b) ≡ a + suc b = omega arith in
    ap (λ (l : List ℕ). set l (d + a + b) (get_or src (s + a + b) 0)) (moved-add dst d src s a b)
    ∙ ap (λ (k : ℕ). set (moved dst d src s (a + b)) k (get_or src (s + a + b) 0)) e
    ∙ ap (λ (k : ℕ). set (moved dst d src s (a + b)) (d + (a + b)) (get_or src k 0)) e'
    ∙ ap (moved dst d src s) e''

-- ---- whether a byte is one of some cell

pub record Hit (w : ℕ) (ps : List Pair) (i : ℕ) : Type 0 where
  pub d : ℕ
  pub s : ℕ
  pub in_list : In (pair d s) ps
  pub k : ℕ
  pub below : k < w
  pub is : i ≡ d + k

abbrev pub AllOff : ℕ → List Pair → ℕ → Type 0
AllOff w ps i = (d s : ℕ) → In (pair d s) ps → Off w d i

pub to_eq : {d s e t : ℕ} → pair d s ≡ pair e t → d ≡ e
to_eq q = cc

pub from_eq : {d s e t : ℕ} → pair d s ≡ pair e t → s ≡ t
from_eq q = cc

pub hits : (w : ℕ) (ps : List Pair) (i : ℕ) → Hit w ps i ⊎ AllOff w ps i
hits w [] i = inr (λ d s m. absurd m)
hits w (pair e t ∷ ps) i =
    by_lt i e
    (λ l. later (inl l) (hits w ps i))
    (λ l. by_lt i (e + w)
    (λ b. inl (record { d = e; s = t; in_list = inl refl; k = i - e; below = let g : i - e < w = omega (arith, l, b) in g; is = let g : i ≡ e + (i - e) = omega (arith, l) in g }))
    (λ b. later (inr b) (hits w ps i)))
  where
    later : Off w e i → Hit w ps i ⊎ AllOff w ps i → Hit w (pair e t ∷ ps) i ⊎ AllOff w (pair e t ∷ ps) i
    later o (inl h) = inl (record { d = h.d; s = h.s; in_list = inr h.in_list; k = h.k; below = h.below; is = h.is })
    later o (inr a) = inr (λ d s m. ⊎_elim (λ q. subst (λ (z : ℕ). Off w z i) (sym (to_eq q)) o) (λ v. a d s v) m)

-- cells that share a byte are not clear
pub share : (w d e i k : ℕ) → i < w → k < w → d + i ≡ e + k → Clear w d e → ⊥
share w d e i k hi hk q c =
    ⊎_elim (λ l. absurd (let z : ⊥ = omega (arith, hi, hk, q, l) in z)) (λ l. absurd (let z : ⊥ = omega (arith, hi, hk, q, l) in z)) c

-- ---- the fold has the meaning

pub copied-length : (w : ℕ) (ps : List Pair) (dst src : List ℕ) → length (copied w ps dst src) ≡ length dst
unfolding copied
copied-length w [] dst src = refl
copied-length w (pair d s ∷ ps) dst src = copied-length w ps (moved dst d src s w) src ∙ moved_length dst d src s w

-- one cell, then the rest
module _ (w : ℕ) (dst src : List ℕ) (e t : ℕ) (ps : List Pair) (out : List ℕ) (f : AllIn w (length dst) (length src) (pair e t ∷ ps)) (u : Apart w (pair e t ∷ ps)) (rest : Holds w ps (moved dst e src t w) src out) where
  -- a later cell that shares the byte is the same one
  again : (k : ℕ) → k < w → Hit w ps (e + k) → get_or out (e + k) 0 ≡ get_or src (t + k) 0
  again k l h =
      ⊎_elim
      (λ q. rest.cells e t (subst (λ (p : Pair). In p ps) (sym q) h.in_list) k l)
      (λ c. absurd (share w e h.d k h.k l h.below h.is c))
      (u e t h.d h.s (inl refl) (inr h.in_list))

  first : (k : ℕ) → k < w → get_or out (e + k) 0 ≡ get_or src (t + k) 0
  first k l = ⊎_elim (again k l) (λ o. rest.kept (e + k) o ∙ moved_at_lem dst e src t w k l (f e t (inl refl)).0) (hits w ps (e + k))

  same_first : (d s : ℕ) → pair d s ≡ pair e t → (k : ℕ) → k < w → get_or out (d + k) 0 ≡ get_or src (s + k) 0
  same_first d s q k l = ap (λ (z : ℕ). get_or out (z + k) 0) (to_eq q) ∙ first k l ∙ ap (λ (z : ℕ). get_or src (z + k) 0) (sym (from_eq q))

  holds_cons : Holds w (pair e t ∷ ps) dst src out
  holds_cons =
      record {
        long = rest.long ∙ moved_length dst e src t w;
        cells = λ d s m k l. ⊎_elim (λ q. same_first d s q k l) (λ v. rest.cells d s v k l) m;
        kept = λ i h. rest.kept i (λ d s m. h d s (inr m)) ∙ moved-off dst e src t w i (h e t (inl refl));
      }

-- THE LAW: where no two cells share a byte the copy is the meaning
pub copied-holds : (w : ℕ) (ps : List Pair) (dst src : List ℕ) → AllIn w (length dst) (length src) ps → Apart w ps → Holds w ps dst src (copied w ps dst src)
unfolding copied
copied-holds w [] dst src f u = record { long = refl; cells = λ d s m. absurd m; kept = λ i h. refl }
copied-holds w (pair e t ∷ ps) dst src f u =
    holds_cons w dst src e t ps _ f u
    (copied-holds w ps (moved dst e src t w) src
    (λ d s m. subst (λ (k : ℕ). (d + w ≤ k) × (s + w ≤ length src)) (sym (moved_length dst e src t w)) (f d s (inr m)))
    (λ d s a b m n. u d s a b (inr m) (inr n)))

-- the meaning fixes every byte
pub holds-one : (w : ℕ) (ps : List Pair) (dst src a b : List ℕ) → Holds w ps dst src a → Holds w ps dst src b → a ≡ b
holds-one w ps dst src a b p q = ext_get_or 0 a b (p.long ∙ sym q.long) (λ i h. ⊎_elim (hit i) (λ o. p.kept i o ∙ sym (q.kept i o)) (hits w ps i))
  where
    hit : (i : ℕ) → Hit w ps i → get_or a i 0 ≡ get_or b i 0
    hit i h =
        ap (λ (k : ℕ). get_or a k 0) h.is
        ∙ p.cells h.d h.s h.in_list h.k h.below
        ∙ sym (q.cells h.d h.s h.in_list h.k h.below)
        ∙ ap (λ (k : ℕ). get_or b k 0) (sym h.is)

-- and asks only which cells there are
pub holds_same : (w : ℕ) (ps qs : List Pair) (dst src out : List ℕ) → Same ps qs → Holds w ps dst src out → Holds w qs dst src out
holds_same w ps qs dst src out e m =
    record {
      long = m.long;
      cells = λ d s i. m.cells d s ((e (pair d s)).1 i);
      kept = λ i h. m.kept i (λ d s v. h d s ((e (pair d s)).0 v));
    }

pub in_same : (w m n : ℕ) (ps qs : List Pair) → Same ps qs → AllIn w m n ps → AllIn w m n qs
in_same w m n ps qs e f d s i = f d s ((e (pair d s)).1 i)

pub apart-same : (w : ℕ) (ps qs : List Pair) → Same ps qs → Apart w ps → Apart w qs
apart-same w ps qs e u d s a b i j = u d s a b ((e (pair d s)).1 i) ((e (pair a b)).1 j)

-- ANY LIST OF THE SAME CELLS, in any order, gives the same bytes
pub copied-same : (w : ℕ) (ps qs : List Pair) (dst src : List ℕ) → AllIn w (length dst) (length src) ps → Apart w ps → Same ps qs → copied w ps dst src ≡ copied w qs dst src
copied-same w ps qs dst src f u e =
    holds-one w qs dst src _ _
    (holds_same w ps qs dst src _ e (copied-holds w ps dst src f u))
    (copied-holds w qs dst src (in_same w (length dst) (length src) ps qs e f) (apart-same w ps qs e u))

-- ---- permutations

pub data Perm {A : Type 0} : List A → List A → Type 0 where
  stays : (ps : List A) → Perm ps ps
  keep : (p : A) (ps qs : List A) → Perm ps qs → Perm (p ∷ ps) (p ∷ qs)
  swap : (p q : A) (ps : List A) → Perm (p ∷ q ∷ ps) (q ∷ p ∷ ps)
  then : (ps qs rs : List A) → Perm ps qs → Perm qs rs → Perm ps rs

pub perm_same : {A : Type 0} (ps qs : List A) → Perm ps qs → Same ps qs
perm_same ps qs (stays rs) = λ p. (λ m. m, λ m. m)
perm_same {A} ps qs (keep q rs ts e) =
    let ih : Same rs ts = perm_same rs ts e in
    λ p. (λ m. ⊎_elim (λ a. inl a) (λ b. inr ((ih p).0 b)) m, λ m. ⊎_elim (λ a. inl a) (λ b. inr ((ih p).1 b)) m)
perm_same {A} ps qs (swap a b rs) = λ p. (turn a b p, turn b a p)
  where
    turn : (a b p : A) → In p (a ∷ b ∷ rs) → In p (b ∷ a ∷ rs)
    turn a b p m = ⊎_elim (λ x. inr (inl x)) (λ y. ⊎_elim (λ x. inl x) (λ v. inr (inr v)) y) m
perm_same {A} ps qs (then rs ts us d e) =
    let l : Same rs ts = perm_same rs ts d in
    let r : Same ts us = perm_same ts us e in
    λ p. (λ m. (r p).0 ((l p).0 m), λ m. (l p).1 ((r p).1 m))

-- any order gives the same bytes
pub copied_perm : (w : ℕ) (ps qs : List Pair) (dst src : List ℕ) → AllIn w (length dst) (length src) ps → Apart w ps → Perm ps qs → copied w ps dst src ≡ copied w qs dst src
copied_perm w ps qs dst src f u e = copied-same w ps qs dst src f u (perm_same ps qs e)

-- ---- lists in a row

pub copied-append : (w : ℕ) (ps qs : List Pair) (dst src : List ℕ) → copied w (ps ++ qs) dst src ≡ copied w qs (copied w ps dst src) src
unfolding copied
copied-append w [] qs dst src = refl
copied-append w (pair d s ∷ ps) qs dst src = copied-append w ps qs (moved dst d src s w) src

pub copied_none : (w : ℕ) (dst src : List ℕ) → copied w [] dst src ≡ dst
unfolding copied
copied_none w dst src = refl

pub copied-one : (w d s : ℕ) (dst src : List ℕ) → copied w (pair d s ∷ []) dst src ≡ moved dst d src s w
unfolding copied
copied-one w d s dst src = refl

-- some of the cells
abbrev pub Some : {A : Type 0} → List A → List A → Type 0
Some qs ps = (p : _) → In p qs → In p ps

pub in_some : (w m n : ℕ) (ps qs : List Pair) → Some qs ps → AllIn w m n ps → AllIn w m n qs
in_some w m n ps qs e f d s i = f d s (e (pair d s) i)

pub apart_some : (w : ℕ) (ps qs : List Pair) → Some qs ps → Apart w ps → Apart w qs
apart_some w ps qs e u d s a b i j = u d s a b (e (pair d s) i) (e (pair a b) j)
