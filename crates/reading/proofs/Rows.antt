-- Reading a row field by field, over the kind of element. A loop's invariant is what is left: whoever reads the rest of the row from here
-- has read the row.
-- Assumes nothing.
use mathlib.Core.Path.{◌≡◌, refl, sym, ap, ◌∙◌}
use mathlib.Core.List.{List, [], ◌∷◌, ◌++◌}
use Prim.Native.Nat.{ℕ, suc, ◌+◌, ◌-◌, ◌≤◌, ◌<◌}
use native.Mathlib.Numerals.{add-one}
use native.Mathlib.Omega.{arith}
use lib.ListN.{length, set, length-append, length-set}
use lib.Seq.{sets}
use Rattle.strided.specs.Base.{over}
use Rattle.laws.specs.Text.Once.{Once, celled, cell_once, row_stops, row_cons}
use Rattle.reading.specs.Here.{Here, Nowhere}
use Rattle.reading.specs.Bytes.{Behind}
use Rattle.reading.specs.Rows.{RowHere, TakesRow}
use Rattle.reading.proofs.Answers.{clash}
use Rattle.std.specs.Borrow.{Bor}
use Rattle.std.specs.Prelude.{Option, None}

module _ {A : Type 0} (g : A → List ℕ) (Fits : A → Type 0) where
  -- ---- the row by its first field

  -- a row of more than no field begins with one
  first_field : {t : List ℕ} {v : A} {vs : List A} {rest : List ℕ} → RowHere g Fits t (v ∷ vs) rest
      → Here (celled g) Fits t v (over vs (celled g) ++ (10 ∷ rest))
  first_field {v = v} {vs = vs} {rest = rest} h =
      record { fits = h.fits.0; form = h.form ∙ row_cons g v vs rest; stops = row_stops g vs rest }

  other_fields : {t : List ℕ} {v : A} {vs : List A} {rest : List ℕ} → RowHere g Fits t (v ∷ vs) rest → RowHere g Fits (over vs (celled g) ++ (10 ∷ rest)) vs rest
  other_fields h = record { fits = h.fits.1; form = refl }

  joined : {t u : List ℕ} {v : A} {vs : List A} {rest : List ℕ} → Here (celled g) Fits t v u → RowHere g Fits u vs rest → RowHere g Fits t (v ∷ vs) rest
  joined {v = v} {vs = vs} {rest = rest} h r =
      record { fits = (h.fits, r.fits); form = h.form ∙ ap (λ (l : List ℕ). celled g v ++ l) r.form ∙ sym (row_cons g v vs rest) }

  -- a row is longer than its numbers are many
  pub row_long : {t : List ℕ} (vs : List A) {rest : List ℕ} → RowHere g Fits t vs rest → length vs + length rest < length t
  row_long {t = t} [] h = let l = ap length h.form in omega arith
  row_long {t = t} (v ∷ vs) {rest = rest} h =
      let l = row_long {t = over vs (celled g) ++ (10 ∷ rest)} vs (other_fields h) in
      let f : length t ≡ length (celled g v) + length (over vs (celled g) ++ (10 ∷ rest)) = ap length (first_field h).form ∙ length-append (celled g v) _ in
      omega arith

  module _ (once : Once g) {s u : List ℕ} {from : ℕ} {old new : List A} {r : Option (Bor (List ℕ))} where
    -- ---- one step of the reader

    turn : {k n : ℕ} {v : A} → n ≡ suc k → Here (celled g) Fits s v u → TakesRow g Fits u k (from + 1) (set old from v) new r
        → TakesRow g Fits s n from old new r
    turn {k} {n} {v} q h t =
        record {
          to = λ next e. (let w = t.to next e in
              (v ∷ w.0, ap suc w.1 ∙ sym q, joined h w.2, w.3 ∙ ap (λ (i : ℕ). sets (set old from v) i w.0) (add-one from)));
          bad = λ e vs rest l. none e vs rest (l ∙ q);
        }
      where
        none : r ≡ None → (vs : List A) (rest : List ℕ) → length vs ≡ suc k → RowHere g Fits s vs rest → ⊥
        none e [] rest l row = omega arith
        none e (w ∷ ws) rest l row =
            let f = first_field row in
            let o = cell_once g once v w u (over ws (celled g) ++ (10 ∷ rest)) h.stops f.stops (sym h.form ∙ f.form) in
            let m : length ws ≡ k = omega arith in
            t.bad e ws rest m (rw o.1 (other_fields row))

  no_field : {s : List ℕ} {from : ℕ} {old new : List A} {k n : ℕ} → n ≡ suc k → Nowhere (celled g) Fits s
      → TakesRow g Fits s n from old new None
  no_field {s} {k = k} q none =
      record { to = λ next e. clash (cc); bad = λ e vs rest l row. go vs rest (l ∙ q) row }
    where
      go : (vs : List A) (rest : List ℕ) → length vs ≡ suc k → RowHere g Fits s vs rest → ⊥
      go [] rest l row = omega arith
      go (w ∷ ws) rest l row = none w (over ws (celled g) ++ (10 ∷ rest)) (first_field row)

  line_end : {s : List ℕ} {from : ℕ} {old : List A} {n : ℕ} {r : Option (Bor (List ℕ))} → n ≡ 0 → Behind 10 s r → TakesRow g Fits s n from old old r
  line_end {s} {r = r} q b =
      record {
        to = λ next e. ([], sym q, record { fits = tt; form = b.to next e }, refl);
        bad = λ e vs rest l row. go e vs rest (l ∙ q) row;
      }
    where
      go : r ≡ None → (vs : List A) (rest : List ℕ) → length vs ≡ 0 → RowHere g Fits s vs rest → ⊥
      go e [] rest l row = b.bad e rest row.form
      go e (w ∷ ws) rest l row = omega arith

  -- ---- the loop: i numbers are read, and what is left is u

  pub record Rowing (s : List ℕ) (count from : ℕ) (old out : List A) (u : List ℕ) (i : ℕ) : Type 0 where
    pub within : i ≤ count
    pub same : length out ≡ length old
    pub short : i + length u ≤ length s
    pub left : (new : List A) (r : Option (Bor (List ℕ))) → TakesRow g Fits u (count - i) (from + i) out new r → TakesRow g Fits s count from old new r

  module _ {s : List ℕ} {count from : ℕ} {old out : List A} {u : List ℕ} {i : ℕ} (d : Rowing s count from old out u i) where
    pub rowing_turn : Once g → {v : A} {x : List ℕ} → i < count → Here (celled g) Fits u v x → Rowing s count from old (set out (from + i) v) x (i + 1)
    rowing_turn once {v} {x} h f =
        record {
          within = omega arith;
          same = length-set out (from + i) v ∙ d.same;
          short = let l = ap length f.form ∙ length-append (celled g v) x in omega arith;
          left = λ new r t.
              let q : count - i ≡ suc (count - (i + 1)) = omega arith in
              let a : from + (i + 1) ≡ from + i + 1 = omega arith in
              d.left new r (turn once q f (rw a at t));
        }

    pub rowing_bad : i < count → Nowhere (celled g) Fits u → TakesRow g Fits s count from old out None
    rowing_bad h none = let q : count - i ≡ suc (count - (i + 1)) = omega arith in d.left out None (no_field q none)

    pub rowing_end : {r : Option (Bor (List ℕ))} → count ≤ i → Behind 10 u r → TakesRow g Fits s count from old out r
    rowing_end {r} h b = let q : count - i ≡ 0 = omega arith in d.left out r (line_end q b)
