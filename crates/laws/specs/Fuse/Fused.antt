-- Fusing, as `fuse` defines it: the strides of axes that join, and that the fused axes are a `StrideRun` at each operand.
-- Assumes nothing.
use Rattle.std.specs.Prelude.{◌≡◌, refl, ◌⊎◌, Bool, true, false, ◌&&◌, List, [], ◌∷◌, ℕ, zero, suc, ◌*◌, ◌^◌, eqb, ltb, get_or, ℤ, pos, negsuc, ◌*ℤ◌}
use Rattle.std.proofs.Common.{sym, ap, ◌∙◌, subst, inl, inr, mul_comm, one-mul, eqb-true}
use Rattle.std.proofs.lemmas.Bool.{false≢true}
use Rattle.std.proofs.Math.IntN.{*ℤ-zero}
use Rattle.laws.specs.Base.Tests.{and_both, or_cases}
use Rattle.laws.specs.Fuse.Strides.{hd_z, StrideRun}
use Rattle.laws.specs.Fuse.Strides.StrideRun.{sdone, smore, stop}
use Rattle.strided.specs.Fuse.{fuse, can_fuse, fuse_if, fuse_step, joins, all_join, eq_z}
use Rattle.strided.specs.Layout.{row, in_i64, extents, Axis}

-- ---- the strides of axes that join

pub eq_z_true : (a b : ℤ) → eq_z a b ≡ true → a ≡ b
eq_z_true (pos a) (pos b) h = ap pos (eqb-true a b h)
eq_z_true (pos a) (negsuc b) h = absurd (false≢true h)
eq_z_true (negsuc a) (pos b) h = absurd (false≢true h)
eq_z_true (negsuc a) (negsuc b) h = ap negsuc (eqb-true a b h)

joins_true : (e : ℕ) (a b : ℤ) → joins e a b ≡ true → b ≡ pos e *ℤ a
joins_true e a b h = go (or_cases _ _ h)
  where
    go : ((eq_z a (pos 0) && eq_z b (pos 0)) ≡ true) ⊎ ((ltb e (2 ^ 63) && (in_i64 (pos e *ℤ a) && eq_z b (pos e *ℤ a))) ≡ true) → b ≡ pos e *ℤ a
    go (inl k) =
        let p = and_both (eq_z a (pos 0)) (eq_z b (pos 0)) k in
        rw (eq_z_true a (pos 0) p.0, eq_z_true b (pos 0) p.1, *ℤ-zero (pos e))
    go (inr k) =
        let p = and_both (ltb e (2 ^ 63)) (in_i64 (pos e *ℤ a) && eq_z b (pos e *ℤ a)) k in
        eq_z_true b (pos e *ℤ a) (and_both (in_i64 (pos e *ℤ a)) (eq_z b (pos e *ℤ a)) p.1).1

-- at each operand, also where both strides are 0
all_join_true : (e : ℕ) (xs bs : List ℤ) (k : ℕ) → all_join e xs bs ≡ true → get_or bs k (pos 0) ≡ pos e *ℤ get_or xs k (pos 0)
all_join_true e [] [] k h = sym (*ℤ-zero (pos e))
all_join_true e [] (b ∷ bs) k h = absurd (false≢true h)
all_join_true e (a ∷ xs) [] k h = absurd (false≢true h)
all_join_true e (a ∷ xs) (b ∷ bs) zero h = joins_true e a b (and_both (joins e a b) (all_join e xs bs) h).0
all_join_true e (a ∷ xs) (b ∷ bs) (suc k) h = all_join_true e xs bs k (and_both (joins e a b) (all_join e xs bs) h).1

pub can_fuse_strides : (k : ℕ) (a b : Axis) → can_fuse a b ≡ true → get_or b.strides k (pos 0) ≡ pos a.extent *ℤ get_or a.strides k (pos 0)
can_fuse_strides k a b q =
    all_join_true a.extent a.strides b.strides k (and_both (all_join a.extent a.strides b.strides) (ltb (a.extent * b.extent) (2 ^ 64)) q).0

-- ---- a kept axis, and a joined one

keep_axis : {es fs : List ℕ} {ss : List ℤ} (e : ℕ) (s : ℤ) → StrideRun es fs ss 1 → StrideRun (e ∷ es) (e ∷ fs) (s ∷ ss) 1
keep_axis {es} {fs} {ss} e s t = go (eqb e 1) refl
  where
    one : StrideRun (1 ∷ es) (1 ∷ fs) (s ∷ ss) 1
    one = smore (inl refl) t

    go : (b : Bool) → eqb e 1 ≡ b → StrideRun (e ∷ es) (e ∷ fs) (s ∷ ss) 1
    go true q = rw (eqb-true e 1 q) one
    go false q = stop q (sym (one-mul e)) (inl refl) t

rejoin : {es fs : List ℕ} {ss : List ℤ} {f l : ℕ} → StrideRun es (f ∷ fs) ss l → l ≡ 1 → StrideRun es (1 ∷ fs) ss f
rejoin {fs = fs} (smore {e} {l} {s} {es} {ss = ss} k t) q = subst (λ (n : ℕ). StrideRun (e ∷ es) (1 ∷ fs) (s ∷ ss) n) q (smore k t)
rejoin (stop z g k t) q = rw g (smore k t)

join_axis : {es fs : List ℕ} {ss : List ℤ} {f : ℕ} (e : ℕ) (s : ℤ) → hd_z ss ≡ pos e *ℤ s → StrideRun es (f ∷ fs) ss 1 → StrideRun (e ∷ es) (e * f ∷ 1 ∷ fs) (s ∷ ss) 1
join_axis {es} {fs} {ss} {f} e s j t = go (eqb (e * f) 1) refl
  where
    two : StrideRun (e ∷ es) (1 ∷ 1 ∷ fs) (s ∷ ss) (f * e)
    two = smore (inr j) (rejoin t refl)

    go : (b : Bool) → eqb (e * f) 1 ≡ b → StrideRun (e ∷ es) (e * f ∷ 1 ∷ fs) (s ∷ ss) 1
    go true q = rw (eqb-true (e * f) 1 q) (rw (mul_comm f e, eqb-true (e * f) 1 q) at two)
    go false q = stop q (mul_comm e f) (inr j) (rejoin t refl)

fuse_step_fits : (k : ℕ) (es : List ℕ) (a : Axis) (bs : List Axis) → StrideRun es (extents bs) (row k bs) 1 → StrideRun (a.extent ∷ es) (extents (fuse_step a bs)) (row k (fuse_step a bs)) 1
fuse_step_fits k es a [] t = keep_axis a.extent (get_or a.strides k (pos 0)) t
fuse_step_fits k es a (b ∷ bs) t = go (can_fuse a b) refl
  where
    go : (c : Bool) → can_fuse a b ≡ c → StrideRun (a.extent ∷ es) (extents (fuse_if c a b bs)) (row k (fuse_if c a b bs)) 1
    go true q = join_axis a.extent (get_or a.strides k (pos 0)) (can_fuse_strides k a b q) t
    go false q = keep_axis a.extent (get_or a.strides k (pos 0)) t

pub fuse_fits : (k : ℕ) (xs : List Axis) → StrideRun (extents xs) (extents (fuse xs)) (row k (fuse xs)) 1
fuse_fits k [] = sdone
fuse_fits k (a ∷ xs) = fuse_step_fits k (extents xs) a (fuse xs) (fuse_fits k xs)

-- fusing leaves the strides alone
row-fuse_step : (k : ℕ) (a : Axis) (bs : List Axis) → row k (fuse_step a bs) ≡ row k (a ∷ bs)
row-fuse_step k a [] = refl
row-fuse_step k a (b ∷ bs) = go (can_fuse a b)
  where
    go : (c : Bool) → row k (fuse_if c a b bs) ≡ row k (a ∷ b ∷ bs)
    go true = refl
    go false = refl

pub row-fuse : (k : ℕ) (xs : List Axis) → row k (fuse xs) ≡ row k xs
row-fuse k [] = refl
row-fuse k (a ∷ xs) = row-fuse_step k a (fuse xs) ∙ ap (λ (l : List ℤ). get_or a.strides k (pos 0) ∷ l) (row-fuse k xs)
