-- THE FOLD IS THE SENTENCE: where no row applies, the cells lie in their buffers and no two indices share a byte of the destination, so that
-- what the fold computes is what ask 3 says, and nothing else is.
-- Assumes nothing.
use Rattle.std.specs.Prelude.{◌≡◌, refl, ◌⊎◌, Bool, true, false, List, [], ◌∷◌, ℕ, ◌+◌, ◌*◌, ◌/◌, ◌≤◌, ◌<◌, T, eqb, ℤ, pos, negsuc, nat_abs, ◌-ℤ◌, length, get_or}
use Rattle.std.proofs.Common.{sym, ap, ◌∙◌, subst, inl, inr, ⊎_elim, arith, ltb-true, eqb-true}
use Rattle.std.proofs.lemmas.Bool.{false≢true, eqb-false}
use Rattle.std.specs.Int.Signed.{non_neg}
use Rattle.strided.specs.Layout.{stride_row, Within, dot}
use Rattle.laws.specs.Base.Integers.{+ℤ-less}
use Rattle.laws.specs.Base.Layouts.{within-total, total_nozero}
use Rattle.laws.specs.Base.Rows.{length_strides}
use Rattle.laws.specs.Mark.Marks.{no_apart}
use Rattle.span.specs.Span.{in_cells}
use Rattle.span.specs.Exact.{all-cells, cell_fits}
use Rattle.cells.specs.Copy.{copied}
use Rattle.cells.specs.Offsets.{place_at, offsets_clear}
use Rattle.cells.specs.Indexed.{Lists, CellsIn, NoneShared, copied-exported, copied_any, exported-one}
use Rattle.export.specs.Export.{offset_of, place_of, width_of, cells_of, exported, Afterwards}
use Rattle.export.specs.Indices.{cells-listed}
use Rattle.export.specs.Rows.{Clean}

-- ---- a cell within its buffer

pub cell_sign : (n : ℕ) (z : ℤ) → in_cells n z ≡ true → T (non_neg z)
cell_sign n (pos a) h = tt
cell_sign n (negsuc a) h = absurd (false≢true h)

pub cell_below : (n : ℕ) (z : ℤ) → in_cells n z ≡ true → nat_abs z < n
cell_below n (pos a) h = ltb-true a n h
cell_below n (negsuc a) h = absurd (false≢true h)

pub cell_in_lem : (w len : ℕ) (z : ℤ) → 0 < w → in_cells (len / w) z ≡ true → place_at w z + w ≤ len
cell_in_lem w len z h i =
    let b : (nat_abs z + 1) * w ≤ len = (cell_fits (nat_abs z) w len h).0 (cell_below (len / w) z i) in
    omega (arith, b)

-- two indices are one, or they are not
pub same_or : (x y : List ℕ) → (x ≡ y) ⊎ (x ≡ y → ⊥)
same_or [] [] = inl refl
same_or [] (k ∷ y) = inr (λ e. let z : ◌≡◌ {A = ℕ} 0 1 = cc e in absurd (omega arith))
same_or (j ∷ x) [] = inr (λ e. let z : ◌≡◌ {A = ℕ} 0 1 = cc e in absurd (omega arith))
same_or (j ∷ x) (k ∷ y) = go (eqb j k) refl (same_or x y)
  where
    go : (b : Bool) → eqb j k ≡ b → (x ≡ y) ⊎ (x ≡ y → ⊥) → (j ∷ x ≡ k ∷ y) ⊎ (j ∷ x ≡ k ∷ y → ⊥)
    go true e (inl q) = let p : j ≡ k = eqb-true j k e in inl cc
    go true e (inr n) = inr (λ q. n cc)
    go false e t = inr (λ q. eqb-false j k e (let p : j ≡ k = cc q in p))

module _ (es sizes : List ℕ) (ss zs : List ℤ) (to from : ℕ) (many : length ss ≡ length es * length sizes) (c : Clean es sizes ss zs to from) where
  abbrev w : ℕ
  w = width_of sizes

  row_long : (k : ℕ) → k < 2 → length (stride_row ss (length es) k) ≡ length es
  row_long k h = length_strides ss (length es) (length sizes) k many (let t = c.two in let g : k < length sizes = omega (arith, t, h) in g)

  -- ROW 17: every cell lies in its buffer
  pub into_cells : (x : List ℕ) → Within es x → in_cells (to / w) (offset_of es ss zs 0 x) ≡ true
  into_cells x v =
      all-cells es (stride_row ss (length es) 0) (get_or zs 0 (pos 0)) (to / w) (row_long 0 (omega arith))
      (total_nozero es (within-total es x v)) c.into x v

  pub from-cells : (x : List ℕ) → Within es x → in_cells (from / w) (offset_of es ss zs 1 x) ≡ true
  from-cells x v =
      ap (λ (n : ℕ). in_cells (from / n) (offset_of es ss zs 1 x)) c.same
      ∙ all-cells es (stride_row ss (length es) 1) (get_or zs 1 (pos 0)) (from / get_or sizes 1 0) (row_long 1 (omega arith))
      (total_nozero es (within-total es x v)) c.out x v

  place-from : (x : List ℕ) → place_at w (offset_of es ss zs 1 x) ≡ place_of es sizes ss zs 1 x
  place-from x = ap (λ (n : ℕ). place_at n (offset_of es ss zs 1 x)) c.same

  pub cells_in : CellsIn (Within es) (place_of es sizes ss zs 0) (place_of es sizes ss zs 1) w to from
  cells_in x v = (
    cell_in_lem w to (offset_of es ss zs 0 x) c.some (into_cells x v),
    subst (λ (n : ℕ). n + w ≤ from) (place-from x) (cell_in_lem w from (offset_of es ss zs 1 x) c.some (from-cells x v)),
  )

  -- ROW 18: no two indices share a byte of the destination
  pub none_shared : NoneShared (Within es) (place_of es sizes ss zs 0) (place_of es sizes ss zs 1) w
  none_shared x y v u =
      ⊎_elim
      (λ e. ⊎_elim (λ q. inl q) (λ n. absurd (meet e n)) (same_or x y))
      (λ q. inr q)
      (offsets_clear w (offset_of es ss zs 0 x) (offset_of es ss zs 0 y) (cell_sign (to / w) (offset_of es ss zs 0 x) (into_cells x v)) (cell_sign (to / w) (offset_of es ss zs 0 y) (into_cells y u)))
    where
      z : ℤ
      z = get_or zs 0 (pos 0)

      meet : offset_of es ss zs 0 x ≡ offset_of es ss zs 0 y → (x ≡ y → ⊥) → ⊥
      meet e n =
          let t : List ℤ = stride_row ss (length es) 0 in
          let s : dot x t ≡ dot y t = sym (+ℤ-less (get_or zs 0 (pos 0)) (dot x t)) ∙ ap (λ (d : ℤ). d -ℤ get_or zs 0 (pos 0)) e ∙ +ℤ-less (get_or zs 0 (pos 0)) (dot y t) in
          no_apart es t (row_long 0 (omega arith)) c.once (record { one = x; other = y; one_in = v; other_in = u; differ = n; same = s })

-- THE LAW: what the fold computes is the sentence
module _ (es sizes : List ℕ) (ss zs : List ℤ) (dst src : List ℕ) (many : length ss ≡ length es * length sizes) (c : Clean es sizes ss zs (length dst) (length src)) where
  pub exported_afterwards : Afterwards es sizes ss zs dst src (exported es sizes ss zs dst src)
  unfolding exported
  exported_afterwards =
      copied-exported (Within es) (place_of es sizes ss zs 0) (place_of es sizes ss zs 1) (width_of sizes) (cells_of es sizes ss zs) dst src
      (cells-listed es sizes ss zs) (cells_in es sizes ss zs (length dst) (length src) many c) (none_shared es sizes ss zs (length dst) (length src) many c)

  -- and nothing else is
  pub afterwards_one : (out : List ℕ) → Afterwards es sizes ss zs dst src out → out ≡ exported es sizes ss zs dst src
  afterwards_one out a =
      exported-one (Within es) (place_of es sizes ss zs 0) (place_of es sizes ss zs 1) (width_of sizes) (cells_of es sizes ss zs) dst src out (exported es sizes ss zs dst src)
      (cells-listed es sizes ss zs) a exported_afterwards

  -- every list that has the cell of each index, and no other, gives it, in whatever order
  pub any_order : (ps : List _) → Lists (Within es) (place_of es sizes ss zs 0) (place_of es sizes ss zs 1) ps → copied (width_of sizes) ps dst src ≡ exported es sizes ss zs dst src
  unfolding exported
  any_order ps l =
      copied_any (Within es) (place_of es sizes ss zs 0) (place_of es sizes ss zs 1) (width_of sizes) ps (cells_of es sizes ss zs) dst src
      l (cells-listed es sizes ss zs) (cells_in es sizes ss zs (length dst) (length src) many c) (none_shared es sizes ss zs (length dst) (length src) many c)
