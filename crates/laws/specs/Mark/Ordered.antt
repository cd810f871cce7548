-- The sizes exceed by rising order exactly if each axis passes a test of its own, in any order. Assumes nothing.
use Rattle.std.specs.Prelude.{◌≡◌, refl, ◌↔◌, Bool, true, false, cond, List, [], ◌∷◌, ℕ, ◌+◌, ◌-◌, ◌*◌, ◌<◌, ◌≤◌, ltb, leb}
use Rattle.std.proofs.Common.{sym, ap, ◌∙◌, mul-le-mul_right, arith, leb-true, leb-false, le-leb, ltb-true, lt-ltb}
use Rattle.std.proofs.lemmas.Bool.{lt-leb}
use Rattle.laws.specs.Base.Tests.{and_both, both_and}
use Rattle.laws.specs.Base.Lists.{All}
use Rattle.strided.specs.Mark.{Way, length_of, insert_up, upwards, exceeds}

-- the reach of the axes of size at most b
abbrev pub up_to : ℕ → List Way → ℕ
up_to b [] = 0
up_to b (q ∷ ps) = cond (leb q.size b) (length_of q) 0 + up_to b ps

-- p's test among ps: that reach, its own part included, and w stay below extent times size
abbrev pub Clear : ℕ → List Way → Way → Type 0
Clear w ps p = w + up_to p.size ps < length_of p + p.size

abbrev pub Big : Way → Type 0
Big p = 1 < p.extent

all_with : (P Q R : Way → Type 0) → ((p : Way) → P p → Q p → R p) → (ps : List Way) → All P ps → All Q ps → All R ps
all_with P Q R f [] h g = tt
all_with P Q R f (p ∷ ps) h g = (f p h.0 g.0, all_with P Q R f ps h.1 g.1)

all_only : (P R : Way → Type 0) → ((p : Way) → P p → R p) → (ps : List Way) → All P ps → All R ps
all_only P R f [] h = tt
all_only P R f (p ∷ ps) h = (f p h.0, all_only P R f ps h.1)

-- ---- the order

unfoldable pub Sorted : List Way → Type 0
Sorted [] = Unit {0}
Sorted (p ∷ ps) = All (λ q. p.size ≤ q.size) ps × Sorted ps

all_insert : (P : Way → Type 0) (p : Way) (ps : List Way) → P p → All P ps → All P (insert_up p ps)
unfolding insert_up
all_insert P p [] h g = (h, tt)
all_insert P p (q ∷ ps) h g = go (leb p.size q.size) (all_insert P p ps h g.1)
  where
    go : (b : Bool) → All P (insert_up p ps) → All P (cond b (p ∷ q ∷ ps) (q ∷ insert_up p ps))
    go true r = (h, g)
    go false r = (g.0, r)

insert_all : (P : Way → Type 0) (p : Way) (ps : List Way) → All P (insert_up p ps) → P p × All P ps
unfolding insert_up
insert_all P p [] g = g
insert_all P p (q ∷ ps) g = go (leb p.size q.size) (insert_all P p ps) g
  where
    go : (b : Bool) → (All P (insert_up p ps) → P p × All P ps) → All P (cond b (p ∷ q ∷ ps) (q ∷ insert_up p ps)) → P p × All P (q ∷ ps)
    go true r h = h
    go false r h = let k = r h.1 in (k.0, (h.0, k.1))

up-insert : (b : ℕ) (p : Way) (ps : List Way) → up_to b (insert_up p ps) ≡ up_to b (p ∷ ps)
unfolding insert_up
up-insert b p [] = refl
up-insert b p (q ∷ ps) = go (leb p.size q.size) (up-insert b p ps)
  where
    go : (c : Bool) → up_to b (insert_up p ps) ≡ up_to b (p ∷ ps) → up_to b (cond c (p ∷ q ∷ ps) (q ∷ insert_up p ps)) ≡ up_to b (p ∷ q ∷ ps)
    go true r = refl
    go false r = omega (arith, r)

sorted_insert : (p : Way) (ps : List Way) → Sorted ps → Sorted (insert_up p ps)
unfolding insert_up Sorted
sorted_insert p [] s = (tt, tt)
sorted_insert p (q ∷ ps) s = go (leb p.size q.size) refl (sorted_insert p ps s.1)
  where
    go : (b : Bool) → leb p.size q.size ≡ b → Sorted (insert_up p ps) → Sorted (cond b (p ∷ q ∷ ps) (q ∷ insert_up p ps))
    go true e r =
        let h : p.size ≤ q.size = leb-true p.size q.size e in
        ((h, all_only (λ k. q.size ≤ k.size) (λ k. p.size ≤ k.size) (λ k g. omega (arith, h, g)) ps s.0), s)
    go false e r = (all_insert (λ k. q.size ≤ k.size) p ps (omega (arith, leb-false p.size q.size e)) s.0, r)

pub all-upwards : (P : Way → Type 0) (ps : List Way) → All P ps → All P (upwards ps)
unfolding upwards
all-upwards P [] h = tt
all-upwards P (p ∷ ps) h = all_insert P p (upwards ps) h.0 (all-upwards P ps h.1)

pub upwards-all : (P : Way → Type 0) (ps : List Way) → All P (upwards ps) → All P ps
unfolding upwards
upwards-all P [] h = tt
upwards-all P (p ∷ ps) h = let k = insert_all P p (upwards ps) h in (k.0, upwards-all P ps k.1)

pub up-upwards : (b : ℕ) (ps : List Way) → up_to b (upwards ps) ≡ up_to b ps
unfolding upwards
up-upwards b [] = refl
up-upwards b (p ∷ ps) = up-insert b p (upwards ps) ∙ ap (λ (n : ℕ). cond (leb p.size b) (length_of p) 0 + n) (up-upwards b ps)

sorted_upwards : (ps : List Way) → Sorted (upwards ps)
unfolding upwards Sorted
sorted_upwards [] = tt
sorted_upwards (p ∷ ps) = sorted_insert p (upwards ps) (sorted_upwards ps)

-- ---- exceeding, axis by axis

-- the part of an axis within the sum, and beyond it
part_in : (p : Way) (b : ℕ) → p.size ≤ b → cond (leb p.size b) (length_of p) 0 ≡ length_of p
part_in p b h = rw (le-leb p.size b h)

up_none : (b : ℕ) (ps : List Way) → All (λ q. b < q.size) ps → up_to b ps ≡ 0
up_none b [] h = refl
up_none b (q ∷ ps) h = rw (lt-leb q.size b h.0) (omega (arith, up_none b ps h.1))

long_enough : (p : Way) → Big p → p.size ≤ length_of p
long_enough p h =
    let g : 1 * p.size ≤ (p.extent - 1) * p.size = mul-le-mul_right p.size (let g : 1 ≤ p.extent - 1 = omega arith in g) in
    omega (arith, g)

above : (w : ℕ) (ps : List Way) → Sorted ps → exceeds w ps ≡ true → All (λ q. w < q.size) ps
unfolding exceeds Sorted
above w [] s e = tt
above w (p ∷ ps) s e =
    let h : w < p.size = ltb-true w p.size (and_both (ltb w p.size) (exceeds (w + length_of p) ps) e).0 in
    (h, all_only (λ q. p.size ≤ q.size) (λ q. w < q.size) (λ q g. omega (arith, h, g)) ps s.0)

exceeds_clear : (w : ℕ) (ps : List Way) → Sorted ps → All Big ps → exceeds w ps ≡ true → All (Clear w ps) ps
unfolding exceeds Sorted
exceeds_clear w [] s g e = tt
exceeds_clear w (p ∷ ps) s g e =
    let k = and_both (ltb w p.size) (exceeds (w + length_of p) ps) e in
    let h : w < p.size = ltb-true w p.size k.0 in
    let none : up_to p.size ps ≡ 0 = up_none p.size ps
    (all_only (λ q. w + length_of p < q.size) (λ q. p.size < q.size) (λ q r. omega (arith, r, long_enough p g.0)) ps (above (w + length_of p) ps s.1 k.1)) in (
      omega (arith, none, h, part_in p p.size (omega arith)),
      all_with (λ q. p.size ≤ q.size) (Clear (w + length_of p) ps) (Clear w (p ∷ ps)) (λ q r c. omega (arith, part_in p q.size r, c)) ps s.0 (exceeds_clear (w + length_of p) ps s.1 g.1 k.1),
    )

clear_exceeds : (w : ℕ) (ps : List Way) → Sorted ps → All (Clear w ps) ps → exceeds w ps ≡ true
unfolding exceeds Sorted
clear_exceeds w [] s c = refl
clear_exceeds w (p ∷ ps) s c =
    both_and (ltb w p.size) (exceeds (w + length_of p) ps)
    (lt-ltb w p.size (omega (arith, c.0, part_in p p.size (omega arith))))
    (clear_exceeds (w + length_of p) ps s.1
    (all_with (λ q. p.size ≤ q.size) (Clear w (p ∷ ps)) (Clear (w + length_of p) ps) (λ q r k. omega (arith, part_in p q.size r, k)) ps s.0 c.1))

-- in the order in which they stand
moved_to : (ps qs : List Way) → ((b : ℕ) → up_to b ps ≡ up_to b qs) → (p : Way) → Clear 0 ps p → Clear 0 qs p
moved_to ps qs e p c = omega (arith, c, e p.size)

pub upwards_clear : (ps : List Way) → All Big ps → exceeds 0 (upwards ps) ≡ true → All (Clear 0 ps) ps
upwards_clear ps g e =
    upwards-all (Clear 0 ps) ps
    (all_only (Clear 0 (upwards ps)) (Clear 0 ps) (moved_to (upwards ps) ps (λ b. up-upwards b ps)) (upwards ps)
    (exceeds_clear 0 (upwards ps) (sorted_upwards ps) (all-upwards Big ps g) e))

pub clear_upwards : (ps : List Way) → All (Clear 0 ps) ps → exceeds 0 (upwards ps) ≡ true
clear_upwards ps c =
    clear_exceeds 0 (upwards ps) (sorted_upwards ps)
    (all-upwards (Clear 0 (upwards ps)) ps (all_only (Clear 0 ps) (Clear 0 (upwards ps)) (moved_to ps (upwards ps) (λ b. sym (up-upwards b ps))) ps c))

-- ---- any sorted order

-- the same axes, one after the other changed places
pub data Rearranged : List Way → List Way → Type 0 where
  same : {ps : List Way} → Rearranged ps ps
  swap : {p q : Way} {ps : List Way} → Rearranged (p ∷ q ∷ ps) (q ∷ p ∷ ps)
  keep : {p : Way} {ps qs : List Way} → Rearranged ps qs → Rearranged (p ∷ ps) (p ∷ qs)
  chain : {ps qs rs : List Way} → Rearranged ps qs → Rearranged qs rs → Rearranged ps rs

up_rearranged : (b : ℕ) {ps qs : List Way} → Rearranged ps qs → up_to b ps ≡ up_to b qs
up_rearranged b same = refl
up_rearranged b swap = omega arith
up_rearranged b (keep {p} r) = ap (λ (n : ℕ). cond (leb p.size b) (length_of p) 0 + n) (up_rearranged b r)
up_rearranged b (chain r s) = up_rearranged b r ∙ up_rearranged b s

all_rearranged : (P : Way → Type 0) {ps qs : List Way} → Rearranged ps qs → All P ps ↔ All P qs
all_rearranged P same = ((λ h. h), (λ h. h))
all_rearranged P swap = ((λ h. (h.1.0, (h.0, h.1.1))), (λ h. (h.1.0, (h.0, h.1.1))))
all_rearranged P (keep r) = let k = all_rearranged P r in ((λ h. (h.0, k.0 h.1)), (λ h. (h.0, k.1 h.1)))
all_rearranged P (chain r s) = let k = all_rearranged P r in let m = all_rearranged P s in ((λ h. m.0 (k.0 h)), (λ h. k.1 (m.1 h)))

either_way : (a b : Bool) → (a ≡ true → b ≡ true) → (b ≡ true → a ≡ true) → a ≡ b
either_way true b f g = sym (f refl)
either_way false true f g = g refl
either_way false false f g = refl

pub sorted_any : (ps qs : List Way) → All Big ps → Rearranged ps qs → Sorted qs → exceeds 0 qs ≡ exceeds 0 (upwards ps)
sorted_any ps qs g r s = either_way (exceeds 0 qs) (exceeds 0 (upwards ps))
    (λ e. clear_upwards ps ((all_rearranged (Clear 0 ps) r).1
    (all_only (Clear 0 qs) (Clear 0 ps) (moved_to qs ps (λ b. sym (up_rearranged b r))) qs (exceeds_clear 0 qs s ((all_rearranged Big r).0 g) e))))
    (λ e. clear_exceeds 0 qs s ((all_rearranged (Clear 0 qs) r).0
    (all_only (Clear 0 ps) (Clear 0 qs) (moved_to ps qs (λ b. up_rearranged b r)) ps (upwards_clear ps g e))))
