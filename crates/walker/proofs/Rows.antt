-- The offsets of a stretch's blocks in an array, one block after another.
-- Assumes nothing.
use mathlib.Core.Path.{◌≡◌, refl, sym, ap, ap₂, ◌∙◌, subst}
use mathlib.Core.List.{List, [], ◌∷◌}
use Prim.Native.Nat.{ℕ, zero, suc, ◌+◌, ◌<◌}
use native.Mathlib.Nat.{le_refl}
use native.Mathlib.Numerals.{add-one}
use native.Mathlib.Omega.{arith}
use lib.IntN.{ℤ, pos, ◌+ℤ◌, ◌*ℤ◌, +ℤ_assoc, +ℤ_idr, zero-*ℤ, suc_ℤ-*ℤ}
use lib.ListN.{length, get_or, take}
use lib.Seq.{get_or-take, length-take-le}
use mir.Facts.{to_z-of_z}
use mir.Syntax.{w64}
use mir.Val.{SFits, to_z, of_z}
use Rattle.advance.specs.Filled.{filled_above, filled_at, filled_length}
use Rattle.walker.specs.Stretch.{moved_on, RowsFit}
use Rattle.walker.specs.Way.{added_at, added, MayMove}

-- ---- a turn of a loop that moves them on

-- an offset that has not moved yet
pub unmoved : (d o₀ o : List ℤ) (k : ℕ) → o ≡ added k d o₀ → SFits w64 (get_or o k (pos 0)) → to_z w64 (of_z w64 (get_or o k (pos 0))) ≡ get_or o₀ k (pos 0)
unmoved d o₀ o k e h = to_z-of_z h ∙ ap (λ (l : List ℤ). get_or l k (pos 0)) e ∙ filled_above o₀ (added_at d o₀) (pos 0) k k (le_refl k)

-- where it moves
pub sum_is : (d o₀ o : List ℤ) (k : ℕ) → o ≡ added k d o₀ → SFits w64 (get_or o k (pos 0)) → SFits w64 (get_or d k (pos 0))
    → to_z w64 (of_z w64 (get_or o k (pos 0))) +ℤ to_z w64 (of_z w64 (get_or d k (pos 0))) ≡ added_at d o₀ k
sum_is d o₀ o k e h g = ap₂ (λ (x y : ℤ). x +ℤ y) (unmoved d o₀ o k e h) (to_z-of_z g)

-- ---- block by block

-- offsets that are o + j * d, place by place
pub moved_list : (j : ℕ) (xs os ds : List ℤ) → length xs ≡ length os → length ds ≡ length os
    → ((k : ℕ) → k < length os → get_or xs k (pos 0) ≡ get_or os k (pos 0) +ℤ pos j *ℤ get_or ds k (pos 0)) → xs ≡ moved_on j os ds
moved_list j [] [] ds a b f = refl
moved_list j [] (o ∷ os) ds a b f = absurd (omega arith)
moved_list j (x ∷ xs) [] ds a b f = absurd (omega arith)
moved_list j (x ∷ xs) (o ∷ os) [] a b f = absurd (omega arith)
moved_list j (x ∷ xs) (o ∷ os) (d ∷ ds) a b f =
    ap₂ (λ (u : ℤ) (v : List ℤ). u ∷ v) (f 0 (omega arith)) (moved_list j xs os ds (omega arith) (omega arith) (λ k h. f (suc k) (omega arith)))

pub length_moved : (j : ℕ) (os ds : List ℤ) → length ds ≡ length os → length (moved_on j os ds) ≡ length os
length_moved j [] ds a = refl
length_moved j (o ∷ os) [] a = absurd (omega arith)
length_moved j (o ∷ os) (d ∷ ds) a = ap suc (length_moved j os ds (omega arith))

pub moved_at_lem : (j : ℕ) (os ds : List ℤ) (k : ℕ) → length ds ≡ length os → k < length os → get_or (moved_on j os ds) k (pos 0) ≡ get_or os k (pos 0) +ℤ pos j *ℤ get_or ds k (pos 0)
moved_at_lem j [] ds k a h = absurd (omega arith)
moved_at_lem j (o ∷ os) [] k a h = absurd (omega arith)
moved_at_lem j (o ∷ os) (d ∷ ds) zero a h = refl
moved_at_lem j (o ∷ os) (d ∷ ds) (suc k) a h = moved_at_lem j os ds k (omega arith) (omega arith)

-- o has the offsets of block j, told from those of block 0
pub record RowIs (j operands : ℕ) (d o₀ o : List ℤ) : Type 0 where
  pub offered : length o ≡ 8
  pub each : (k : ℕ) → k < operands → get_or o k (pos 0) ≡ get_or o₀ k (pos 0) +ℤ pos j *ℤ get_or d k (pos 0)

one_more_move : (o d : ℤ) (j : ℕ) → (o +ℤ pos j *ℤ d) +ℤ d ≡ o +ℤ pos (j + 1) *ℤ d
one_more_move o d j = +ℤ_assoc o (pos j *ℤ d) d ∙ ap (λ (z : ℤ). o +ℤ z) (sym (ap (λ (n : ℕ). pos n *ℤ d) (add-one j) ∙ suc_ℤ-*ℤ (pos j) d))

module _ {n operands : ℕ} {d o₀ : List ℤ} (f : RowsFit n operands d o₀) where
  pub row_none : RowIs 0 operands d o₀ o₀
  row_none = record { offered = f.offered; each = λ k h. sym (ap (λ (z : ℤ). get_or o₀ k (pos 0) +ℤ z) (zero-*ℤ (get_or d k (pos 0))) ∙ +ℤ_idr (get_or o₀ k (pos 0))) }

  module _ {j : ℕ} {o : List ℤ} (m : RowIs j operands d o₀ o) where
    adds : (k : ℕ) → k < operands → added_at d o k ≡ get_or o₀ k (pos 0) +ℤ pos (j + 1) *ℤ get_or d k (pos 0)
    adds k h = ap (λ (z : ℤ). z +ℤ get_or d k (pos 0)) (m.each k h) ∙ one_more_move (get_or o₀ k (pos 0)) (get_or d k (pos 0)) j

    -- they may move on, where there is a block behind
    pub row-may : j + 1 < n → MayMove operands d o
    row-may g = record { few = f.few; moves = f.moves; offered = m.offered; fits = λ k h. subst (SFits w64) (sym (adds k h)) (f.fits (j + 1) g k h) }

    pub row_next : {o' : List ℤ} → o' ≡ added operands d o → RowIs (j + 1) operands d o₀ o'
    row_next e = record {
      offered = ap length e ∙ filled_length o (added_at d o) operands ∙ m.offered;
      each = λ k h.
          let x = m.offered in
          let y = f.few in
          ap (λ (z : List ℤ). get_or z k (pos 0)) e ∙ filled_at o (added_at d o) (pos 0) operands k h (omega (arith, x, y)) ∙ adds k h;
    }

    -- as a list
    pub row_list : take operands o ≡ moved_on j (take operands o₀) (take operands d)
    row_list =
        let x = m.offered in
        let y = f.offered in
        let z = f.moves in
        let few = f.few in
        let a : length (take operands o₀) ≡ operands = length-take-le operands o₀ (omega (arith, y, few)) in
        let b : length (take operands o) ≡ operands = length-take-le operands o (omega (arith, x, few)) in
        let c : length (take operands d) ≡ operands = length-take-le operands d (omega (arith, z, few)) in
        moved_list j (take operands o) (take operands o₀) (take operands d) (b ∙ sym a) (c ∙ sym a)
        (λ k h. let h' : k < operands = subst (λ (i : ℕ). k < i) a h in
        get_or-take operands o k (pos 0) h' ∙ m.each k h' ∙ sym (ap₂ (λ (u v : ℤ). u +ℤ pos j *ℤ v) (get_or-take operands o₀ k (pos 0) h') (get_or-take operands d k (pos 0) h')))
