-- A loop that reads the numbers of a row one by one, over the kind of element, and keeps what it has made of them: `Reading` says of any row
-- that stands there that u begins with the rest of it, and that P holds of those read.
-- Assumes nothing.
use mathlib.Core.Path.{◌≡◌, sym, ap, ◌∙◌, subst}
use mathlib.Core.List.{List, [], ◌∷◌, ◌++◌}
use Prim.Native.Nat.{ℕ, ◌+◌, ◌≤◌, ◌<◌}
use native.Mathlib.Numerals.{add-one}
use native.Mathlib.Omega.{arith}
use lib.ListN.{length, get_or, take, drop}
use lib.Seq.{drop-cons, take-suc, take_all}
use Rattle.strided.specs.Base.{over}
use Rattle.laws.specs.Text.Once.{Once, celled, cell_once, row_stops, row_cons}
use Rattle.reading.specs.Here.{Here, Nowhere}
use Rattle.reading.specs.Rows.{RowHere}

module _ {A : Type 0} (g : A → List ℕ) (Fits : A → Type 0) where
  first_field : {t : List ℕ} (v : A) (vs : List A) {rest : List ℕ} → RowHere g Fits t (v ∷ vs) rest
      → Here (celled g) Fits t v (over vs (celled g) ++ (10 ∷ rest))
  first_field v vs {rest} h = record { fits = h.fits.0; form = h.form ∙ row_cons g v vs rest; stops = row_stops g vs rest }

  abbrev pub Standing : List ℕ → ℕ → (List A → Type 0) → Type 0
  Standing s count P = (vs : List A) (rest : List ℕ) → length vs ≡ count → RowHere g Fits s vs rest → P vs

  pub record Reading (s : List ℕ) (count : ℕ) (u : List ℕ) (i : ℕ) (P : List A → Type 0) : Type 0 where
    pub within : i ≤ count
    pub left : (vs : List A) (rest : List ℕ) → length vs ≡ count → RowHere g Fits s vs rest → RowHere g Fits u (drop i vs) rest × P (take i vs)

  pub reading_start : (s : List ℕ) (count : ℕ) (P : List A → Type 0) → P [] → Reading s count s 0 P
  reading_start s count P h = record { within = omega arith; left = λ vs rest l r. (r, h) }

  module _ {s : List ℕ} {count : ℕ} {u : List ℕ} {i : ℕ} (P : List A → Type 0) (d : Reading s count u i P) where
    -- what is left of a row, if something is
    cut : (h : i < count) (vs : List A) → length vs ≡ count → (v : A) × (drop i vs ≡ v ∷ drop (i + 1) vs) × (take (i + 1) vs ≡ take i vs ++ (v ∷ []))
    cut h [] l = absurd (omega arith)
    cut h (w ∷ ws) l =
        let vs : List A = w ∷ ws in
        let b : i < length vs = omega (arith, h, l) in
        (get_or vs i w, drop-cons vs i w b ∙ ap (λ (k : ℕ). get_or vs i w ∷ drop k vs) (sym (add-one i)), ap (λ (k : ℕ). take k vs) (add-one i) ∙ take-suc vs i w b)

    pub reading_turn : (Q : List A → Type 0) → Once g → {v : A} {x : List ℕ} → i < count → Here (celled g) Fits u v x
        → ((xs : List A) → P xs → Q (xs ++ (v ∷ []))) → Reading s count x (i + 1) Q
    reading_turn Q once {v} {x} h f step =
        record { within = omega arith; left = λ vs rest l r. go vs rest (cut h vs l) (d.left vs rest l r) }
      where
        go : (vs : List A) (rest : List ℕ) → (w : A) × (drop i vs ≡ w ∷ drop (i + 1) vs) × (take (i + 1) vs ≡ take i vs ++ (w ∷ []))
            → RowHere g Fits u (drop i vs) rest × P (take i vs) → RowHere g Fits x (drop (i + 1) vs) rest × Q (take (i + 1) vs)
        go vs rest c k =
            let w : A = c.0 in
            let more : List A = drop (i + 1) vs in
            let row : RowHere g Fits u (w ∷ more) rest = subst (λ (l : List A). RowHere g Fits u l rest) c.1 k.0 in
            let e = first_field w more row in
            let o = cell_once g once v w x (over more (celled g) ++ (10 ∷ rest)) f.stops e.stops (sym f.form ∙ e.form) in
            let q : Q (take i vs ++ (w ∷ [])) = subst (λ (y : A). Q (take i vs ++ (y ∷ []))) o.0 (step (take i vs) k.1) in
            (record { fits = row.fits.1; form = o.1 }, subst Q (sym c.2) q)

    -- no number stands there, so no row stood at all
    pub reading_bad : (Q : List A → Type 0) → i < count → Nowhere (celled g) Fits u → Standing s count Q
    reading_bad Q h none vs rest l r =
        let c = cut h vs l in
        let w : A = c.0 in
        let more : List A = drop (i + 1) vs in
        let row : RowHere g Fits u (w ∷ more) rest = subst (λ (l : List A). RowHere g Fits u l rest) c.1 (d.left vs rest l r).0 in
        absurd (none w (over more (celled g) ++ (10 ∷ rest)) (first_field w more row))

    pub reading_end : count ≤ i → Standing s count P
    reading_end h vs rest l r = subst P (take_all i vs (omega (arith, h, l))) (d.left vs rest l r).1
