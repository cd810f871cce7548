-- A plan's strides compared with those of the axes that stay in it, row by row, where no table of them is made. Assumes nothing.
use mathlib.Core.Path.{◌≡◌, refl, sym, ap, ap₂, ◌∙◌}
use mathlib.Core.Bool.{Bool, ◌&&◌}
use mathlib.Core.List.{List, [], ◌∷◌}
use Prim.Native.Nat.{ℕ, zero, suc, ◌+◌, ◌-◌, ◌*◌, ◌≤◌, ◌<◌}
use native.Mathlib.Omega.{arith}
use borrow.Author.Tests.{ne_eqb}
use lib.Dec.{eqb}
use lib.IntN.{ℤ, pos, negsuc, nat_abs}
use lib.ListN.{length, get_or, take, drop, length-drop, take-append-drop}
use lib.Seq.{take-add, length-take-le, get_or-take}
use Rattle.strided.specs.Base.{padded}
use Rattle.strided.specs.Order.{pick}
use Rattle.strided.specs.Fuse.{eq_z}
use Rattle.strided.specs.Step.{blank_z}
use Rattle.laws.specs.Base.Arrays.{length-padded, get_d_padded}
use Rattle.laws.specs.Base.Filling.{drop_behind, padded_is}
use Rattle.laws.specs.Base.Rows.{length_over}
use Rattle.laws.specs.Fuse.Arrays.{get_d_pick, pick_row, pick_rows}
use Rattle.laws.specs.Order.Picked.{length-pick}
use Rattle.session.specs.Session.{same_ints}
use Rattle.session.specs.Same.{NoneDiffer}
use Rattle.session.proofs.Comparing.{none_same, same_append}
use Rattle.session.proofs.Tabling.{rows_more}

-- zeros are compared by looking for bits
zero_is : (x : ℤ) → eq_z (pos 0) x ≡ eqb (nat_abs x) 0
zero_is (pos zero) = refl
zero_is (pos (suc n)) = ne_eqb 0 (suc n) (λ e. absurd (omega (arith, e))) ∙ sym (ne_eqb (suc n) 0 (λ e. absurd (omega (arith, e))))
zero_is (negsuc n) = sym (ne_eqb (suc n) 0 (λ e. absurd (omega (arith, e))))

pub same-blank : (n : ℕ) (l : List ℤ) → length l ≡ n → same_ints (padded n (pos 0) []) l ≡ blank_z l
same-blank zero [] e = refl
same-blank zero (x ∷ l) e = absurd (omega (arith, e))
same-blank (suc n) [] e = absurd (omega (arith, e))
same-blank (suc n) (x ∷ l) e = ap₂ (λ (a b : Bool). a && b) (zero_is x) (same-blank n l (omega (arith, e)))

-- a row: the strides of the axes that are named, and zeros
abbrev pub fresh : List ℤ → List ℕ → List ℤ
fresh ss A = padded 64 (pos 0) (pick (pos 0) ss A)

module _ (ss : List ℤ) (A : List ℕ) (few : length A ≤ 64) where
  counted : length (pick (pos 0) ss A) ≡ length A
  counted = length-pick (pos 0) ss A

  fresh_long : length (fresh ss A) ≡ 64
  fresh_long = length-padded (pos 0) 64 (pick (pos 0) ss A)

  fresh_at : (i : ℕ) → i < length A → get_or (fresh ss A) i (pos 0) ≡ get_or ss (get_or A i 0) (pos 0)
  fresh_at i h = get_d_padded (pos 0) 64 (pick (pos 0) ss A) i (omega (arith, h, few)) ∙ get_d_pick (pos 0) ss A i h

  -- the strides of those that are named are compared with the first places of a row
  module _ (row : List ℤ) (e : length row ≡ 64) where
    front_long : length (take (length A) (fresh ss A)) ≡ length A
    front_long = length-take-le (length A) (fresh ss A) (omega (arith, fresh_long, few))

    front_as_long : length (take (length A) (fresh ss A)) ≡ length (take (length A) row)
    front_as_long = front_long ∙ sym (length-take-le (length A) row (omega (arith, e, few)))

    pub row_seen : {P : ℕ → ℕ → Type 0} {seen : Bool} → NoneDiffer P (length A) seen
        → ((i x : ℕ) → i < length A → P i x → eqb x 0 ≡ eq_z (get_or ss (get_or A i 0) (pos 0)) (get_or row i (pos 0)))
        → seen ≡ same_ints (take (length A) (fresh ss A)) (take (length A) row)
    row_seen {P} {seen} n is =
        none_same (pos 0) eq_z same_ints refl (λ x y xs ys. refl) (take (length A) (fresh ss A)) (take (length A) row) {P = P} n front_long (sym front_as_long ∙ front_long)
        (λ i x l p.
        is i x l p
        ∙ ap₂ eq_z (sym (get_or-take (length A) (fresh ss A) i (pos 0) l ∙ fresh_at i l)) (sym (get_or-take (length A) row i (pos 0) l)))

    -- and behind them there is 0
    pub row-over : (seen rest : Bool) → seen ≡ same_ints (take (length A) (fresh ss A)) (take (length A) row) → rest ≡ blank_z (drop (length A) row)
        → (seen && rest) ≡ same_ints (fresh ss A) row
    row-over seen rest h q =
        let d = length-drop (length A) row in
        ap₂ (λ (a b : Bool). a && b) h
        (q ∙ sym (same-blank (64 - length A) (drop (length A) row) (omega (arith, d, e)))
        ∙ ap (λ (l : List ℤ). same_ints l (drop (length A) row)) (sym (drop_behind 64 (length A) (pos 0) (pick (pos 0) ss A) (omega (arith, counted)))))
        ∙ sym (same_append (pos 0) eq_z same_ints refl (λ x y xs ys. refl) (take (length A) (fresh ss A)) (drop (length A) (fresh ss A)) (take (length A) row) (drop (length A) row) front_as_long)
        ∙ ap₂ same_ints (take-append-drop (length A) (fresh ss A)) (take-append-drop (length A) row)

-- all rows
module _ (ss : List ℤ) (p : ℕ) (o : List ℕ) (PS : List ℤ) (long : length PS ≡ 512) where
  rows_long : (k : ℕ) → length (pick_rows ss p o k) ≡ k * 64
  rows_long k = length_over 64 (λ j. padded 64 (pos 0) (pick_row ss p o j)) k 0 (λ j a b. length-padded (pos 0) 64 (pick_row ss p o j))

  pub rows_next : (k : ℕ) → k < 8 → (alike row : Bool) → alike ≡ same_ints (pick_rows ss p o k) (take (k * 64) PS)
      → row ≡ same_ints (padded 64 (pos 0) (pick (pos 0) (drop (k * p) ss) o)) (take (k * 64 + 64 - k * 64) (drop (k * 64) PS))
      → (alike && row) ≡ same_ints (pick_rows ss p o (k + 1)) (take ((k + 1) * 64) PS)
  rows_next k h alike row a q =
      let w : k * 64 + 64 - k * 64 ≡ 64 = omega arith in
      let m : (k + 1) * 64 ≡ k * 64 + 64 = omega arith in
      let front : length (take (k * 64) PS) ≡ k * 64 = length-take-le (k * 64) PS (omega (arith, long, h)) in
      sym (ap₂ same_ints (rows_more (λ j. padded 64 (pos 0) (pick_row ss p o j)) k) (ap (λ (n : ℕ). take n PS) m ∙ take-add (k * 64) 64 PS)
      ∙ same_append (pos 0) eq_z same_ints refl (λ x y xs ys. refl) (pick_rows ss p o k) (padded 64 (pos 0) (pick_row ss p o k)) (take (k * 64) PS) (take 64 (drop (k * 64) PS)) (rows_long k ∙ sym front)
      ∙ ap₂ (λ (x y : Bool). x && y) (sym a) (sym (q ∙ ap (λ (n : ℕ). same_ints (padded 64 (pos 0) (pick_row ss p o k)) (take n (drop (k * 64) PS))) w)))

  pub rows-over : (m : ℕ) → m ≤ 8 → (alike rest : Bool) → alike ≡ same_ints (pick_rows ss p o m) (take (m * 64) PS) → rest ≡ blank_z (drop (m * 64) PS)
      → (alike && rest) ≡ same_ints (padded 512 (pos 0) (pick_rows ss p o m)) PS
  rows-over m few alike rest a q =
      let r = rows_long m in
      let front : length (take (m * 64) PS) ≡ m * 64 = length-take-le (m * 64) PS (omega (arith, long, few)) in
      let d = length-drop (m * 64) PS in
      ap₂ (λ (x y : Bool). x && y) a (q ∙ sym (same-blank (512 - length (pick_rows ss p o m)) (drop (m * 64) PS) (omega (arith, d, long, r))))
      ∙ sym (same_append (pos 0) eq_z same_ints refl (λ x y xs ys. refl) (pick_rows ss p o m) (padded (512 - length (pick_rows ss p o m)) (pos 0) []) (take (m * 64) PS) (drop (m * 64) PS) (r ∙ sym front))
      ∙ ap₂ same_ints (sym (padded_is 512 (pos 0) (pick_rows ss p o m) (omega (arith, r, few)))) (take-append-drop (m * 64) PS)
