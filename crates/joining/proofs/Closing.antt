-- Places of an array that are cleared, and a row that is taken out where it stands. Assumes nothing.
use mathlib.Core.Path.{◌≡◌, refl, sym, ap, ap₂, ◌∙◌}
use mathlib.Core.List.{List, [], ◌∷◌, ◌++◌}
use Prim.Native.Nat.{ℕ, zero, suc, ◌+◌, ◌-◌, ◌*◌, ◌≤◌, ◌<◌}
use native.Mathlib.Nat.{zero-mul, mul_comm}
use native.Mathlib.Omega.{arith}
use lib.ListN.{length, take, drop, replicate, length-drop, take-append-drop}
use Rattle.std.specs.List.{FoldsTo}
use lib.Seq.{paste, length-paste, take-paste, drop-paste, drop-drop, take-add, length-take-le}
use borrow.Author.Tests.{lt-ltb, le-ltb}
use Rattle.strided.specs.Base.{padded, over, run}
use Rattle.laws.specs.Base.Filling.{fill_none, drop_behind, padded_is}
use Rattle.laws.specs.Base.Lists.{over-append, run-append}
use Rattle.laws.specs.Base.Rows.{row_fits}
use Rattle.session.specs.Session.{old_place}
use Rattle.session.proofs.Tabling.{over_agree}

-- calls of what gives z each time make z at every place
pub folds_same : {P A : Type 0} {R : P → A → P → Type 0} (z : A) (I : P → Type 0) → ((p : P) (x : A) (q : P) → I p → R p x q → (x ≡ z) × I q)
    → (p : P) (xs : List A) (q : P) → I p → FoldsTo R p xs q → xs ≡ replicate (length xs) z
folds_same z I next p [] q i f = refl
folds_same z I next p (x ∷ xs) q i f =
    let n = next p x f.0 i f.1 in
    ap₂ (λ a r. a ∷ r) n.0 (folds_same z I next f.0 xs q n.1 f.2)

-- places cleared in an array that is z from place e on
pub cleared : {A : Type 0} (z : A) (n s e : ℕ) (l : List A) → length l ≡ n → s ≤ e → e ≤ n → l ≡ padded n z (take e l)
    → take s l ++ (replicate (e - s) z ++ drop e l) ≡ padded n z (take s l)
cleared z n s e l long h room is =
    let front : length (take e l) ≡ e = length-take-le e l (omega (arith, long, room)) in
    let short : length (take s l) ≡ s = length-take-le s l (omega (arith, long, room, h)) in
    ap (λ (r : List _). take s l ++ r)
    (ap₂ ◌++◌ (fill_none (e - s) z) (ap (drop e) is ∙ drop_behind n e z (take e l) (omega (arith, front)))
    ∙ zeros_more (e - s) (n - e) z ∙ ap (λ (m : ℕ). padded m z []) (let q : e - s + (n - e) ≡ n - length (take s l) = omega (arith, short, h, room) in q))
    ∙ sym (padded_is n z (take s l) (omega (arith, short, h, room)))
  where
    zeros_more : {A : Type 0} (a b : ℕ) (z : A) → padded a z [] ++ padded b z [] ≡ padded (a + b) z []
    zeros_more zero b z = ap (λ (n : ℕ). padded n z []) (let e : b ≡ 0 + b = omega arith in e)
    zeros_more (suc a) b z = ap (λ r. z ∷ r) (zeros_more a b z) ∙ ap (λ (n : ℕ). padded n z []) (let e : suc (a + b) ≡ suc a + b = omega arith in e)

-- rows of w places each, one behind the other
rows_taken : {A : Type 0} (w : ℕ) (O : List A) (n s : ℕ) → over (run s n) (λ j. take w (drop (j * w) O)) ≡ take (n * w) (drop (s * w) O)
rows_taken w O zero s = let e : 0 * w ≡ 0 = zero-mul w in rw e
rows_taken w O (suc n) s =
    let e : suc n * w ≡ w + n * w = omega arith in
    let es : suc s * w ≡ s * w + w = omega arith in
    ap (λ (r : List _). take w (drop (s * w) O) ++ r)
    (rows_taken w O n (suc s) ∙ ap (λ (x : ℕ). take (n * w) (drop x O)) es ∙ ap (take (n * w)) (sym (drop-drop w (s * w) O)))
    ∙ sym (take-add w (n * w) (drop (s * w) O))
    ∙ ap (λ (x : ℕ). take x (drop (s * w) O)) (sym e)

-- the places of those behind row k
others : (w m k rest : ℕ) → m ≡ k + 1 + rest → rest * w ≡ w * m - w - k * w
others w m k rest e = let q : w * m ≡ (k + 1 + rest) * w = mul_comm w m ∙ ap (λ (n : ℕ). n * w) e in omega (arith, q)

-- one of them taken out: first the later ones move up, then the last places are cleared
module _ {A : Type 0} (z : A) (O : List A) (n w m k : ℕ) (there : k < m) (room : w * m ≤ n) (long : length O ≡ n) where
  abbrev at : ℕ
  at = k * w

  abbrev left : ℕ
  left = w * m - w - at

  ends : at + w ≤ w * m
  ends = row_fits k w m there

  whole : at + left + w ≡ w * m
  whole = let h = ends in omega (arith, h)

  abbrev later : List A
  later = drop (at + w) O

  later_long : left ≤ length later
  later_long = let e = length-drop (at + w) O in let h = ends in omega (arith, e, long, room, h)

  module _ (blank : O ≡ padded n z (take (w * m) O)) (new : List A) (moved : new ≡ paste O at (drop ((k + 1) * w) O) (w * m - (k + 1) * w)) where
    is : new ≡ paste O at later left
    is =
        let from : (k + 1) * w ≡ at + w = omega arith in
        let many : w * m - (k + 1) * w ≡ left = omega arith in
        moved ∙ ap₂ (λ (s c : ℕ). paste O at (drop s O) c) from many

    same_behind : drop (w * m) new ≡ drop (w * m) O
    same_behind =
        let h = ends in
        ap₂ (λ (n : ℕ) (l : List A). drop n l) (sym whole) is
        ∙ sym (drop-drop w (at + left) (paste O at later left))
        ∙ ap (drop w) (drop-paste O at later left (omega (arith, long, room, h)) later_long)
        ∙ drop-drop w (at + left) O
        ∙ ap (λ (n : ℕ). drop n O) whole

    new_long : length new ≡ n
    new_long = let h = ends in ap length is ∙ length-paste O at later left (omega (arith, long, room, h)) later_long ∙ long

    still-blank : new ≡ padded n z (take (w * m) new)
    still-blank =
        let front : length (take (w * m) O) ≡ w * m = length-take-le (w * m) O (omega (arith, long, room)) in
        let counted : length (take (w * m) new) ≡ w * m = length-take-le (w * m) new (omega (arith, new_long, room)) in
        sym (take-append-drop (w * m) new)
        ∙ ap (λ (l : List A). take (w * m) new ++ l) (same_behind ∙ ap (drop (w * m)) blank ∙ drop_behind n (w * m) z (take (w * m) O) (omega (arith, front)) ∙ ap (λ (c : ℕ). padded (n - c) z []) (sym counted))
        ∙ sym (padded_is n z (take (w * m) new) (omega (arith, counted, room)))

    front-left : take (w * m - w) new ≡ take at O ++ take left later
    front-left =
        let h = ends in
        let e : w * m - w ≡ at + left = omega (arith, h) in
        ap₂ take e is ∙ take-paste O at later left (omega (arith, long, room, h)) later_long

    -- the later rows are those of what stands behind the first row
    row-later : (j : ℕ) → take w (drop (suc j * w) O) ≡ take w (drop (j * w) (drop w O))
    row-later j = let e : suc j * w ≡ w + j * w = omega arith in ap (λ (n : ℕ). take w (drop n O)) e ∙ ap (take w) (sym (drop-drop (j * w) w O))

    rows : over (run 0 (m - 1)) (λ j. take w (drop (old_place k j * w) O)) ≡ take at O ++ take left later
    rows =
        let rest : ℕ = m - 1 - k in
        let e : m - 1 ≡ k + rest = omega (arith, there) in
        let z0 : 0 * w ≡ 0 = zero-mul w in
        let h = ends in
        let el : rest * w ≡ left = others w m k rest (omega (arith, there)) in
        ap (λ (n : ℕ). over (run 0 n) (λ j. take w (drop (old_place k j * w) O))) e
        ∙ ap (λ (l : List ℕ). over l (λ j. take w (drop (old_place k j * w) O))) (run-append k rest 0)
        ∙ over-append (run 0 k) (run (0 + k) rest) (λ j. take w (drop (old_place k j * w) O))
        ∙ ap₂ ◌++◌
        (over_agree (λ j. take w (drop (old_place k j * w) O)) (λ j. take w (drop (j * w) O)) k 0 (λ j a b. ap (λ (i : ℕ). take w (drop (i * w) O)) (before j (omega arith)))
        ∙ rows_taken w O k 0 ∙ ap (λ (n : ℕ). take at (drop n O)) z0)
        (over_agree (λ j. take w (drop (old_place k j * w) O)) (λ j. take w (drop (j * w) (drop w O))) rest (0 + k) (λ j a b. ap (λ (i : ℕ). take w (drop (i * w) O)) (behind j (omega arith)) ∙ row-later j)
        ∙ rows_taken w (drop w O) rest (0 + k) ∙ ap₂ (λ (n : ℕ) (l : List A). take n l) el (drop-drop ((0 + k) * w) w O ∙ ap (λ (n : ℕ). drop n O) (let q : w + (0 + k) * w ≡ k * w + w = omega arith in q)))
      where
        before : (j : ℕ) → j < k → old_place k j ≡ j
        before j l = rw (lt-ltb j k l)

        behind : (j : ℕ) → k ≤ j → old_place k j ≡ suc j
        behind j l = rw (le-ltb j k l)

    -- the later rows have moved up, and the places behind them are cleared
    pub rows_closed : {zs : List A} → zs ≡ replicate (length (take (w * m - (w * m - w)) (drop (w * m - w) new))) z
        → take (w * m - w) new ++ (zs ++ drop (w * m - (w * m - w)) (drop (w * m - w) new)) ≡ padded n z (over (run 0 (m - 1)) (λ j. take w (drop (old_place k j * w) O)))
    rows_closed {zs} e =
        let h = ends in
        let whole : w * m - w + (w * m - (w * m - w)) ≡ w * m = omega (arith, h) in
        let some : length (take (w * m - (w * m - w)) (drop (w * m - w) new)) ≡ w * m - (w * m - w) =
        length-take-le (w * m - (w * m - w)) (drop (w * m - w) new) (let d = length-drop (w * m - w) new in omega (arith, d, new_long, room, h)) in
        ap₂ (λ (x y : List A). take (w * m - w) new ++ (x ++ y)) (e ∙ ap (λ (c : ℕ). replicate c z) some) (drop-drop (w * m - (w * m - w)) (w * m - w) new ∙ ap (λ (c : ℕ). drop c new) whole)
        ∙ cleared z n (w * m - w) (w * m) new new_long (omega arith) room still-blank
        ∙ ap (padded n z) (front-left ∙ sym rows)
