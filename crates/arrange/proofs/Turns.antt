-- A turn of each loop that puts elements into an order, on lists. Assumes nothing.
use mathlib.Core.Path.{◌≡◌, refl, sym, ap, ap₂, ◌∙◌}
use mathlib.Core.List.{List, [], ◌∷◌, ◌++◌, append-nil}
use Prim.Native.Nat.{ℕ, zero, suc, ◌+◌, ◌*◌, ◌≤◌, ◌<◌}
use native.Mathlib.Numerals.{add-one}
use native.Mathlib.Omega.{arith}
use lib.IntN.{ℤ, pos}
use lib.ListN.{length, get_or, take, drop, set, length-append, length-drop, drop_of_length-le}
use lib.Seq.{length-take-le, get_or-drop, take_all}
use Rattle.strided.specs.Base.{padded}
use Rattle.strided.specs.Order.{pick}
use Rattle.laws.specs.Base.Arrays.{length-padded}
use Rattle.laws.specs.Order.Picked.{length-pick}
use Rattle.laws.specs.Base.Stores.{set-padded, fill_next, padded-row}
use Rattle.laws.specs.Fuse.Arrays.{get_d_pick, pick_row, pick_rows, rows_more, length-rows}

-- one more element of ps over those of qs
set-over : {A : Type 0} (d : A) (ps qs : List A) (j : ℕ) → length ps ≡ length qs → j < length ps → set (take j ps ++ drop j qs) j (get_or ps j d) ≡ take (suc j) ps ++ drop (suc j) qs
set-over d [] qs j e h = absurd (omega arith)
set-over d (p ∷ ps) [] j e h = absurd (omega arith)
set-over d (p ∷ ps) (q ∷ qs) zero e h = refl
set-over d (p ∷ ps) (q ∷ qs) (suc j) e h = ap (λ r. p ∷ r) (set-over d ps qs j (omega arith) (omega arith))

module _ (order : List ℕ) (h : length order ≤ 64) where
  module _ {A : Type 0} (d : A) (xs : List A) where
    pub length-picked : length (pick d xs order) ≡ length order
    length-picked = length-pick d xs order

    pub at-picked : (j : ℕ) → j < length order → get_or (pick d xs order) j d ≡ get_or xs (get_or order j 0) d
    at-picked j g =
        get_d_pick d xs order j g

    -- the next element is picked, over what stood in its place
    pub picked_turn : (qs : List A) (j : ℕ) → length qs ≡ length order → j < length order
        → set (padded 64 d (take j (pick d xs order) ++ drop j qs)) j (get_or xs (get_or order j 0) d) ≡ padded 64 d (take (j + 1) (pick d xs order) ++ drop (j + 1) qs)
    picked_turn qs j e g =
        let ps : List A = pick d xs order in
        let long : length (take j ps ++ drop j qs) ≡ length order =
        length-append (take j ps) (drop j qs) ∙ ap₂ ◌+◌ (length-take-le j ps (omega (arith, length-picked))) (length-drop j qs) ∙ omega (arith, e) in
        ap (set (padded 64 d (take j ps ++ drop j qs)) j) (sym (at-picked j g))
        ∙ set-padded d 64 (take j ps ++ drop j qs) j (get_or ps j d) (omega (arith, long))
        ∙ ap (padded 64 d) (set-over d ps qs j (length-picked ∙ sym e) (omega (arith, length-picked)) ∙ ap (λ (n : ℕ). take n ps ++ drop n qs) (sym (add-one j)))

    pub picked_all : (j : ℕ) → length order ≤ j → take j (pick d xs order) ≡ pick d xs order
    picked_all j g = take_all j (pick d xs order) (omega (arith, length-picked))

    pub picked-over : (qs : List A) (j : ℕ) → length qs ≡ length order → length order ≤ j → take j (pick d xs order) ++ drop j qs ≡ pick d xs order
    picked-over qs j e g =
        let short : length qs ≤ j = omega (arith, e) in
        let none : drop j qs ≡ [] = drop_of_length-le qs short in
        ap₂ ◌++◌ (picked_all j g) none ∙ append-nil (pick d xs order)

  -- ---- the table of strides

  module _ (ss : List ℤ) (p k : ℕ) (g : k < 8) where
    abbrev front : List ℤ
    front = pick_rows ss p order k

    long_front : length front ≡ k * 64
    long_front = length-rows (λ i. padded 64 (pos 0) (pick_row ss p order i)) 64 0 k (λ i. length-padded (pos 0) 64 (pick_row ss p order i))

    -- the next stride of operand k
    pub row_turn : (j : ℕ) → j < length order
        → set (padded 512 (pos 0) (front ++ take j (pick_row ss p order k))) (k * 64 + j) (get_or ss (k * p + get_or order j 0) (pos 0))
        ≡ padded 512 (pos 0) (front ++ take (j + 1) (pick_row ss p order k))
    row_turn j q =
        let stride : get_or (pick_row ss p order k) j (pos 0) ≡ get_or ss (k * p + get_or order j 0) (pos 0) = at-picked (pos 0) (drop (k * p) ss) j q ∙ get_or-drop (k * p) ss (get_or order j 0) (pos 0) in
        let long : length (pick_row ss p order k) ≡ length order = length-picked (pos 0) (drop (k * p) ss) in
        ap₂ (λ (i : ℕ) (v : ℤ). set (padded 512 (pos 0) (front ++ take j (pick_row ss p order k))) (i + j) v) (sym long_front) (sym stride)
        ∙ fill_next (pos 0) 512 front (pick_row ss p order k) j (omega (arith, long, long_front)) (omega (arith, long))

    -- a whole row
    pub row_done : (j : ℕ) → length order ≤ j → padded 512 (pos 0) (front ++ take j (pick_row ss p order k)) ≡ padded 512 (pos 0) (pick_rows ss p order (k + 1))
    row_done j q =
        let z : 0 + k ≡ k = omega arith in
        let long : length (pick_row ss p order k) ≡ length order = length-picked (pos 0) (drop (k * p) ss) in
        ap (λ (r : List ℤ). padded 512 (pos 0) (front ++ r)) (picked_all (pos 0) (drop (k * p) ss) j q)
        ∙ sym (padded-row (pos 0) 512 64 front (pick_row ss p order k) (omega (arith, long_front)) (omega (arith, long)))
        ∙ ap (λ (i : ℕ). padded 512 (pos 0) (front ++ padded 64 (pos 0) (pick_row ss p order i))) (sym z)
        ∙ ap (padded 512 (pos 0)) (sym (rows_more (λ i. padded 64 (pos 0) (pick_row ss p order i)) 0 k))
        ∙ ap (λ (i : ℕ). padded 512 (pos 0) (pick_rows ss p order i)) (sym (add-one k))

-- before the first stride of a row
pub row_start : (order : List ℕ) (ss : List ℤ) (p k : ℕ)
    → padded 512 (pos 0) (pick_rows ss p order k) ≡ padded 512 (pos 0) (pick_rows ss p order k ++ take 0 (pick_row ss p order k))
row_start order ss p k = ap (padded 512 (pos 0)) (sym (append-nil (pick_rows ss p order k)))
