-- Laws of texts that are put into a list, one behind another, and the same of what a writer leaves. The laws of a sink cite them.
-- Assumes nothing.
use mathlib.Core.Path.{◌≡◌, refl, sym, ap, ◌∙◌}
use mathlib.Core.List.{List, [], ◌∷◌, ◌++◌, append_assoc}
use Prim.Native.Nat.{ℕ, zero, suc, ◌+◌, ◌≤◌, ◌<◌}
use native.Mathlib.Nat.{not-suc-le-zero, le_of_suc-le-suc, add-zero}
use native.Mathlib.Numerals.{add-one}
use native.Mathlib.Omega.{arith}
use lib.ListN.{length, take, drop, set, length-append, length-take, length-drop, take-append-drop}
use lib.Seq.{length-take-le, take_at, drop-drop, set_split, drop-append-add}
use Rattle.writing.specs.Put.{put, Wrote}

put_nil : (old : List ℕ) (at : ℕ) → put old at [] ≡ old
unfolding put
put_nil old at = rw (add-zero at, take-append-drop at old)

put-length : (old : List ℕ) (at : ℕ) (t : List ℕ) → at + length t ≤ length old → length (put old at t) ≡ length old
unfolding put
put-length old at t h = simp (length-append, length-take, length-drop) (omega arith)

-- one text behind another is the two in a row
put-put : (old : List ℕ) (at : ℕ) (t u : List ℕ) → at + length t ≤ length old → put (put old at t) (at + length t) u ≡ put old at (t ++ u)
unfolding put
put-put old at t u h =
    let p = take at old ++ t in
    let q = drop (at + length t) old in
    let lp : length p ≡ at + length t = length-append (take at old) t ∙ ap (λ (k : ℕ). k + length t) (length-take-le at old (omega arith)) in
    let whole : take at old ++ (t ++ q) ≡ p ++ q = sym (append_assoc (take at old) t q) in
    let front : take (at + length t) (p ++ q) ≡ p = take_at p q _ lp in
    let e = length-append t u in
    let ends : at + length t + length u ≡ at + length (t ++ u) = omega arith in
    let back : drop (at + length t + length u) (p ++ q) ≡ drop (at + length (t ++ u)) old =
    ap (λ (k : ℕ). drop (k + length u) (p ++ q)) (sym lp) ∙ drop-append-add p q (length u) ∙ drop-drop (length u) (at + length t) old ∙ ap (λ (k : ℕ). drop k old) ends in
    rw (whole, front, back) (append_assoc (take at old) t _ ∙ ap (λ (l : List ℕ). take at old ++ l) (sym (append_assoc t u _)))

-- one element
pub put_one : (old : List ℕ) (at b : ℕ) → at < length old → set old at b ≡ put old at (b ∷ [])
unfolding put
put_one old at b h = set_split old at b h ∙ rw (add-one at)

-- an element is set in front of what is put already, from the end on
pub set_back : (old w : List ℕ) (j c : ℕ) → j < length old → set (take (suc j) old ++ w) j c ≡ take j old ++ c ∷ w
set_back [] w j c h = absurd (not-suc-le-zero h)
set_back (x ∷ xs) w zero c h = refl
set_back (x ∷ xs) w (suc j) c h = ap (λ (l : List ℕ). x ∷ l) (set_back xs w j c (le_of_suc-le-suc h))

-- ---- the same of what a writer leaves

pub wrote_nothing : (old : List ℕ) (at : ℕ) → Wrote old at [] old at
wrote_nothing old at = record { list = sym (put_nil old at); place = sym (add-zero at) }

pub wrote_length : {old t new : List ℕ} {at q : ℕ} → Wrote old at t new q → at + length t ≤ length old → length new ≡ length old
wrote_length {old} {t} {at} w h = ap length w.list ∙ put-length old at t h

pub wrote_then : {old t mid u new : List ℕ} {at p q : ℕ} → Wrote old at t mid p → Wrote mid p u new q → at + length t ≤ length old → Wrote old at (t ++ u) new q
wrote_then {old} {t} {u} {at} a b h =
    record {
      list = b.list ∙ rw (a.list, a.place) (put-put old at t u h);
      place = let e = length-append t u in omega arith;
    }

pub wrote_is : {old t u new : List ℕ} {at q : ℕ} → Wrote old at t new q → t ≡ u → Wrote old at u new q
wrote_is w e = rw e at w

-- written from the first byte on
pub wrote_first : {old t new : List ℕ} {q : ℕ} → Wrote old 0 t new q → (q ≡ length t) × (new ≡ t ++ drop (length t) old)
unfolding put
wrote_first {old} {t} w =
    let z : 0 + length t ≡ length t = omega arith in
    (w.place ∙ z, w.list ∙ ap (λ (k : ℕ). t ++ drop k old) z)
