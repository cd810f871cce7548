-- REACH IS KEPT: where no extent is 0, a plan's axes reach as far as the layout's, at each operand. So a beginning that judges row 6 on the
-- plan's own extents and strides finds what planning found.
-- Assumes nothing.
use Rattle.std.specs.Prelude.{◌≡◌, refl, Bool, true, false, List, [], ◌∷◌, ℕ, zero, suc, ◌+◌, ◌-◌, ◌*◌, ◌<◌, eqb, ℤ, pos, nat_abs, length, get_or}
use Rattle.std.proofs.Common.{ap, ap₂, ◌∙◌, add-mul, mul_assoc, arith, eqb-true}
use Rattle.std.proofs.Math.Nat.{add_left_comm}
use Rattle.strided.specs.Base.{unless}
use Rattle.strided.specs.Layout.{Axis, no_axis, NoZero, extents, row, reach, stride_row, axes_of}
use Rattle.strided.specs.Order.{pick, fusing_order}
use Rattle.strided.specs.Fuse.{fuse, fuse_step, fuse_if, can_fuse, keep, or_first, fused_axes, plan_axes}
use Rattle.strided.specs.declared.Purpose.{Purpose}
use Rattle.laws.specs.Base.Integers.{nat_abs_mul}
use Rattle.laws.specs.Base.Layouts.{extents-axes, axes-row}
use Rattle.laws.specs.Base.Sums.{pos_mul}
use Rattle.laws.specs.Order.Folds.{picked_fold}
use Rattle.laws.specs.Fuse.Fused.{can_fuse_strides}
use Rattle.laws.specs.Fuse.Ordered.{order_nozero}
use Rattle.laws.specs.Fuse.Maps.{axes_permuted, axes_nozero}

-- operand k's reach along axes, and what an axis adds
abbrev reach_of : ℕ → List Axis → ℕ
reach_of k xs = reach (extents xs) (row k xs)

abbrev far_at : ℕ → Axis → ℕ
far_at k a = (a.extent - 1) * nat_abs (get_or a.strides k (pos 0))

-- two axes that join reach as far as the one made of them
joined-far : (e f s : ℕ) → 0 < e → 0 < f → (e * f - 1) * s ≡ (e - 1) * s + (f - 1) * (e * s)
joined-far zero f s h g = absurd (omega arith)
joined-far (suc e) zero s h g = absurd (omega arith)
joined-far (suc e) (suc f) s h g =
    let p : suc e * suc f - 1 ≡ e + f * suc e = omega arith in
    let a : e ≡ suc e - 1 = omega arith in
    let b : f ≡ suc f - 1 = omega arith in
    ap (λ (n : ℕ). n * s) p ∙ add-mul e (f * suc e) s ∙ ap₂ (λ (i j : ℕ). i * s + j) a (mul_assoc f (suc e) s ∙ ap (λ (j : ℕ). j * (suc e * s)) b)

nozero_fuse_step : (a : Axis) (bs : List Axis) → 0 < a.extent → NoZero (extents bs) → NoZero (extents (fuse_step a bs))
nozero_fuse_step a [] h z = (h, tt)
nozero_fuse_step a (b ∷ bs) h z = go (can_fuse a b)
  where
    go : (c : Bool) → NoZero (extents (fuse_if c a b bs))
    go true = (pos_mul a.extent b.extent h z.0, (omega arith, z.1))
    go false = (h, z)

nozero_fuse : (xs : List Axis) → NoZero (extents xs) → NoZero (extents (fuse xs))
nozero_fuse [] z = tt
nozero_fuse (a ∷ xs) z = nozero_fuse_step a (fuse xs) z.0 (nozero_fuse xs z.1)

module _ (k : ℕ) where
  reach-fuse_step : (a : Axis) (bs : List Axis) → 0 < a.extent → NoZero (extents bs) → reach_of k (fuse_step a bs) ≡ far_at k a + reach_of k bs
  reach-fuse_step a [] h z = refl
  reach-fuse_step a (b ∷ bs) h z = go (can_fuse a b) refl
    where
      go : (c : Bool) → can_fuse a b ≡ c → reach_of k (fuse_if c a b bs) ≡ far_at k a + (far_at k b + reach_of k bs)
      go true q =
          let s : ℕ = nat_abs (get_or a.strides k (pos 0)) in
          let t = ap nat_abs (can_fuse_strides k a b q) ∙ nat_abs_mul a.extent (get_or a.strides k (pos 0)) in
          let r = ap (λ (n : ℕ). (b.extent - 1) * n) t in
          omega (arith, joined-far a.extent b.extent s h z.0, r)
      go false q = refl

  reach-fuse : (xs : List Axis) → NoZero (extents xs) → reach_of k (fuse xs) ≡ reach_of k xs
  reach-fuse [] z = refl
  reach-fuse (a ∷ xs) z =
      reach-fuse_step a (fuse xs) z.0 (nozero_fuse xs z.1) ∙ ap (λ (n : ℕ). far_at k a + n) (reach-fuse xs z.1)

  reach-keep : (xs : List Axis) → reach_of k (keep xs) ≡ reach_of k xs
  reach-keep [] = refl
  reach-keep (a ∷ xs) = go (eqb a.extent 1) refl (reach-keep xs)
    where
      go : (b : Bool) → eqb a.extent 1 ≡ b → reach_of k (keep xs) ≡ reach_of k xs → reach_of k (unless b a (keep xs)) ≡ far_at k a + reach_of k xs
      go true q h =
          let e : a.extent - 1 ≡ 0 = omega (arith, eqb-true a.extent 1 q) in
          let f = ap (λ (n : ℕ). n * nat_abs (get_or a.strides k (pos 0))) e in
          omega (arith, f, h)
      go false q h = ap (λ (n : ℕ). far_at k a + n) h

  reach-or_first : (ks xs : List Axis) → reach_of k (or_first ks xs) ≡ reach_of k ks
  reach-or_first [] [] = refl
  reach-or_first [] (a ∷ xs) = omega arith
  reach-or_first (b ∷ ks) xs = refl

  reach_fused : (xs : List Axis) → NoZero (extents xs) → reach_of k (fused_axes xs) ≡ reach_of k xs
  reach_fused xs z = reach-or_first (keep (fuse xs)) (fuse xs) ∙ reach-keep (fuse xs) ∙ reach-fuse xs z

pub plan_reach : (es : List ℕ) (m : ℕ) (ss : List ℤ) (u : Purpose) → NoZero es → length ss ≡ length es * m → (k : ℕ) → k < m
    → reach (extents (plan_axes es m ss u)) (row k (plan_axes es m ss u)) ≡ reach es (stride_row ss (length es) k)
unfolding plan_axes
plan_reach es m ss u z hl k h =
    let xs : List Axis = axes_of es m ss in
    let o : List ℕ = fusing_order es m ss u in
    let p = axes_permuted es m ss u in
    reach_fused k (pick no_axis xs o) (order_nozero o xs p (axes_nozero es m ss u z))
    ∙ picked_fold ◌+◌ 0 add_left_comm no_axis (far_at k) (reach_of k) refl (λ a r. refl) xs o p
    ∙ ap₂ (λ (l : List ℕ) (t : List ℤ). reach l t) (extents-axes ss (length es) m 0 es) (axes-row es m ss k hl h)
