-- Cells told by offsets: "a cell's bytes starting at offset × size". What places of bytes have of them: cells at two offsets are one or share
-- no byte, and a patch whose steps are strides times the size has each cell at its offset's place.
-- Assumes nothing.
use Rattle.std.specs.Prelude.{◌≡◌, refl, ◌⊎◌, ℕ, zero, suc, ◌+◌, ◌*◌, ◌≤◌, ◌<◌, T, ℤ, pos, negsuc, nat_abs, ◌+ℤ◌, ◌*ℤ◌}
use Rattle.std.proofs.Common.{sym, ap, ap₂, ◌∙◌, subst, inl, inr, mul-le-mul_right, le_antisymm, arith}
use Rattle.std.proofs.Math.IntN.{zero-*ℤ}
use Rattle.std.specs.Int.Signed.{non_neg, pos-nat_abs}
use Rattle.laws.specs.Base.Integers.{add-*ℤ, *ℤ-assoc}
use Rattle.cells.specs.declared.Side.{Side}
use Rattle.cells.specs.Copy.{Clear}
use Rattle.cells.specs.Meaning.{by_lt}
use Rattle.cells.specs.Patch.{spot, Inside}

-- where the bytes of the cell at offset z start
abbrev pub place_at : ℕ → ℤ → ℕ
place_at size z = nat_abs z * size

pub sizes_clear : (size a b : ℕ) → (a ≡ b) ⊎ Clear size (a * size) (b * size)
sizes_clear size a b =
    by_lt a b
    (λ l. let m : suc a * size ≤ b * size = mul-le-mul_right size l in inr (inl (omega (arith, m))))
    (λ l. by_lt b a
    (λ k. let m : suc b * size ≤ a * size = mul-le-mul_right size k in inr (inr (omega (arith, m))))
    (λ k. inl (le_antisymm k l)))

-- two offsets are one, or their cells share no byte
pub offsets_clear : (size : ℕ) (a b : ℤ) → T (non_neg a) → T (non_neg b) → (a ≡ b) ⊎ Clear size (place_at size a) (place_at size b)
offsets_clear size a b p q = go (sizes_clear size (nat_abs a) (nat_abs b))
  where
    go : (nat_abs a ≡ nat_abs b) ⊎ Clear size (place_at size a) (place_at size b) → (a ≡ b) ⊎ Clear size (place_at size a) (place_at size b)
    go (inl e) = inl (sym (pos-nat_abs a p) ∙ ap pos e ∙ pos-nat_abs b q)
    go (inr c) = inr c

-- an offset times the size, and its place
pub place-bytes : (size : ℕ) (z : ℤ) → T (non_neg z) → z *ℤ pos size ≡ pos (place_at size z)
place-bytes size (pos n) t = refl
place-bytes size (negsuc n) t = absurd t

pub bytes_inside : (size len : ℕ) (z : ℤ) → T (non_neg z) → place_at size z + size ≤ len → Inside size len (z *ℤ pos size)
bytes_inside size len z t h = subst (Inside size len) (sym (place-bytes size z t)) (record { from = tt; to = h })

-- A PATCH IN OFFSETS: from offset z on, t on along a run and u on from run to run; the step of an axis that is not gone along is any
module _ (size : ℕ) (o : Side) (z t u : ℤ) (i j : ℕ) (first : pos o.first ≡ z *ℤ pos size)
    (s0 : 0 < i → o.step0 ≡ t *ℤ pos size) (s1 : 0 < j → o.step1 ≡ u *ℤ pos size) where
  times : (k : ℕ) (step a : ℤ) → (0 < k → step ≡ a *ℤ pos size) → pos k *ℤ step ≡ (pos k *ℤ a) *ℤ pos size
  times zero step a h = zero-*ℤ step ∙ sym (zero-*ℤ (pos size)) ∙ ap (λ (x : ℤ). x *ℤ pos size) (sym (zero-*ℤ a))
  times (suc k) step a h = ap (λ (x : ℤ). pos (suc k) *ℤ x) (h (omega arith)) ∙ sym (*ℤ-assoc (pos (suc k)) a (pos size))

  pub spot_offset : spot o i j ≡ ((z +ℤ pos j *ℤ u) +ℤ pos i *ℤ t) *ℤ pos size
  spot_offset =
      ap₂ (λ (x y : ℤ). x +ℤ y)
      (ap₂ (λ (x y : ℤ). x +ℤ y) first (times j o.step1 u s1) ∙ sym (add-*ℤ z (pos j *ℤ u) (pos size)))
      (times i o.step0 t s0)
      ∙ sym (add-*ℤ (z +ℤ pos j *ℤ u) (pos i *ℤ t) (pos size))

  pub spot-place : T (non_neg ((z +ℤ pos j *ℤ u) +ℤ pos i *ℤ t)) → nat_abs (spot o i j) ≡ place_at size ((z +ℤ pos j *ℤ u) +ℤ pos i *ℤ t)
  spot-place h = ap nat_abs (spot_offset ∙ place-bytes size ((z +ℤ pos j *ℤ u) +ℤ pos i *ℤ t) h)
