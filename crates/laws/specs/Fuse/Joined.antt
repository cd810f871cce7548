-- THE INDEX MAPS ALONG FUSED AXES: fusing and dropping the axes of extent 1 keep the total; the two index maps stay in range, undo each
-- other and keep every operand's offset. The axes here stand in the order that they are fused in.
-- Assumes nothing.
use Rattle.std.specs.Prelude.{◌≡◌, refl, Bool, true, false, ℕ, ◌*◌, ◌/◌, ◌<◌, eqb, get_or, ℤ, pos, ◌+ℤ◌}
use Rattle.std.proofs.Common.{sym, ap, ◌∙◌, one-mul, arith, eqb-true}
use mathlib.Core.List.{List, [], ◌∷◌, cons≢nil}
use Rattle.std.proofs.Math.Arith.{lt-one}
use Rattle.std.proofs.Math.IntN.{+ℤ_idl, zero-*ℤ}
use Rattle.laws.specs.Fuse.Fused.{fuse_fits, row-fuse}
use Rattle.laws.specs.Fuse.Radix.{kept, Run, told, welded, ravel-unravel, unravel-ravel, run-total}
use Rattle.laws.specs.Fuse.Strides.{hd_z, kept_by, run_of, dot-unravel}
use Rattle.strided.specs.Base.{unless}
use Rattle.strided.specs.Fuse.{fuse, fused_axes, or_first, keep}
use Rattle.strided.specs.Index.{unravel, ravel, plan_index, pad, unravel_index}
use Rattle.strided.specs.Layout.{Within, NoZero, total, dot, Axis, extents, row}

-- ---- the axes that are kept

pub extents-keep : (xs : List Axis) → extents (keep xs) ≡ kept (extents xs)
extents-keep [] = refl
extents-keep (a ∷ xs) = go (eqb a.extent 1) (extents-keep xs)
  where
    go : (b : Bool) → extents (keep xs) ≡ kept (extents xs) → extents (unless b a (keep xs)) ≡ unless b a.extent (kept (extents xs))
    go true h = h
    go false h = rw h

row_keep : (k : ℕ) (xs : List Axis) → row k (keep xs) ≡ kept_by (extents xs) (row k xs)
row_keep k [] = refl
row_keep k (a ∷ xs) = go (eqb a.extent 1) (row_keep k xs)
  where
    go : (b : Bool) → row k (keep xs) ≡ kept_by (extents xs) (row k xs) → row k (unless b a (keep xs)) ≡ unless b (get_or a.strides k (pos 0)) (kept_by (extents xs) (row k xs))
    go true h = h
    go false h = rw h

prod_kept : (fs : List ℕ) → total fs ≡ total (kept fs)
prod_kept [] = refl
prod_kept (f ∷ fs) = go (eqb f 1) refl (prod_kept fs)
  where
    go : (b : Bool) → eqb f 1 ≡ b → total fs ≡ total (kept fs) → f * total fs ≡ total (unless b f (kept fs))
    go true q h = rw (eqb-true f 1 q, h) (omega arith)
    go false q h = rw h

-- ---- a plan index without the axis that stays when none is left

strip : List Axis → List ℕ → List ℕ
strip [] cs = []
strip (k ∷ ks) cs = cs

strip_range : (ks ys : List Axis) (cs : List ℕ) → Within (extents (or_first ks ys)) cs → Within (extents ks) (strip ks cs)
unfolding strip
strip_range [] ys cs r = tt
strip_range (k ∷ ks) ys cs r = r

pad_range : (ks ys : List Axis) (cs : List ℕ) → Within (extents ks) cs → Within (extents (or_first ks ys)) (pad ks ys cs)
pad_range [] [] cs r = tt
pad_range [] (a ∷ ys) cs r = (omega arith, tt)
pad_range (k ∷ ks) ys cs r = r

pad_strip : (ks ys : List Axis) (cs : List ℕ) → Within (extents (or_first ks ys)) cs → pad ks ys (strip ks cs) ≡ cs
unfolding strip
pad_strip [] [] [] r = refl
pad_strip [] [] (c ∷ cs) r = absurd r
pad_strip [] (a ∷ ys) [] r = absurd r
pad_strip [] (a ∷ ys) (c ∷ []) r = rw (lt-one r.0)
pad_strip [] (a ∷ ys) (c ∷ d ∷ cs) r = absurd r.1
pad_strip (k ∷ ks) ys cs r = refl

strip_pad : (ks ys : List Axis) (cs : List ℕ) → Within (extents ks) cs → strip ks (pad ks ys cs) ≡ cs
unfolding strip
strip_pad [] ys [] r = refl
strip_pad [] ys (c ∷ cs) r = absurd r
strip_pad (k ∷ ks) ys cs r = refl

dot_strip : (j : ℕ) (ks ys : List Axis) (cs : List ℕ) → Within (extents (or_first ks ys)) cs → dot cs (row j (or_first ks ys)) ≡ dot (strip ks cs) (row j ks)
unfolding strip
dot_strip j [] [] [] r = refl
dot_strip j [] [] (c ∷ cs) r = absurd r
dot_strip j [] (a ∷ ys) [] r = absurd r
dot_strip j [] (a ∷ ys) (c ∷ []) r = rw (lt-one r.0, zero-*ℤ (get_or a.strides j (pos 0)))
dot_strip j [] (a ∷ ys) (c ∷ d ∷ cs) r = absurd r.1
dot_strip j (k ∷ ks) ys cs r = refl

prod_or_first : (ks ys : List Axis) → total (extents ks) ≡ total (extents (or_first ks ys))
prod_or_first [] [] = refl
prod_or_first [] (a ∷ ys) = refl
prod_or_first (k ∷ ks) ys = refl

-- where every fused extent is 1, no counter is looked at
unravel_none : (es fs cs : List ℕ) (x : ℕ) → kept fs ≡ [] → unravel es fs cs x ≡ unravel es fs [] x
unravel_none [] fs cs x h = refl
unravel_none (e ∷ es) [] cs x h = refl
unravel_none (e ∷ es) (f ∷ fs) cs x h = go (eqb f 1) refl (unravel_none es fs)
  where
    go : (b : Bool) → eqb f 1 ≡ b → ((ds : List ℕ) (y : ℕ) → kept fs ≡ [] → unravel es fs ds y ≡ unravel es fs [] y) → unravel (e ∷ es) (f ∷ fs) cs x ≡ unravel (e ∷ es) (f ∷ fs) [] x
    go true q ih = rw (q, ih cs (x / e) (rw q at h))
    go false q ih = absurd (cons≢nil (rw q at h))

unravel_strip : (es : List ℕ) (ys : List Axis) (cs : List ℕ) (x : ℕ) → unravel es (extents ys) (strip (keep ys) cs) x ≡ unravel es (extents ys) cs x
unfolding strip
unravel_strip es ys cs x = go (keep ys) refl
  where
    go : (ks : List Axis) → keep ys ≡ ks → unravel es (extents ys) (strip ks cs) x ≡ unravel es (extents ys) cs x
    go [] h = sym (unravel_none es (extents ys) cs x (sym (extents-keep ys) ∙ ap extents h))
    go (k ∷ ks) h = refl

-- ---- the statements

run : (xs : List Axis) → Run (extents xs) (extents (fuse xs)) 1
run xs = run_of (fuse_fits 0 xs)

zero<one : 0 < 1
zero<one = omega arith

in_kept : (xs : List Axis) (cs : List ℕ) → Within (extents (fused_axes xs)) cs → Within (kept (extents (fuse xs))) (strip (keep (fuse xs)) cs)
in_kept xs cs r = rw extents-keep at (strip_range (keep (fuse xs)) (fuse xs) cs r)

-- the total is kept
pub fused_total : (xs : List Axis) → total (extents xs) ≡ total (extents (fused_axes xs))
fused_total xs =
    run-total (run xs) ∙ one-mul (total (extents (fuse xs))) ∙ prod_kept (extents (fuse xs)) ∙ ap total (sym (extents-keep (fuse xs))) ∙ prod_or_first (keep (fuse xs)) (fuse xs)

-- what is told is in range
pub unravel_range : (xs : List Axis) (cs : List ℕ) → NoZero (extents xs) → Within (extents (fused_axes xs)) cs → Within (extents xs) (unravel_index xs cs)
unravel_range xs cs p r = rw unravel_strip at (told (run xs) (strip (keep (fuse xs)) cs) 0 p zero<one (in_kept xs cs r))

-- a plan index is in range
pub plan_range : (xs : List Axis) (is : List ℕ) → Within (extents xs) is → Within (extents (fused_axes xs)) (plan_index xs is)
plan_range xs is r =
    pad_range (keep (fuse xs)) (fuse xs) (ravel (extents xs) (extents (fuse xs)) is).counters (rw extents-keep (welded (run xs) is r).1)

-- the plan index of what is told is the one it was told from
pub plan_unravel : (xs : List Axis) (cs : List ℕ) → NoZero (extents xs) → Within (extents (fused_axes xs)) cs → plan_index xs (unravel_index xs cs) ≡ cs
plan_unravel xs cs p r =
    rw (← (unravel_strip (extents xs) (fuse xs) cs 0), ravel-unravel (run xs) (strip (keep (fuse xs)) cs) 0 p zero<one (in_kept xs cs r), pad_strip (keep (fuse xs)) (fuse xs) cs r)

-- the index told from a plan index is the one it was of
pub unravel_plan : (xs : List Axis) (is : List ℕ) → Within (extents xs) is → unravel_index xs (plan_index xs is) ≡ is
unravel_plan xs is r =
    let inside : Within (extents (keep (fuse xs))) (ravel (extents xs) (extents (fuse xs)) is).counters = rw extents-keep (welded (run xs) is r).1 in
    rw (← (unravel_strip (extents xs) (fuse xs) (plan_index xs is) 0), strip_pad (keep (fuse xs)) (fuse xs) (ravel (extents xs) (extents (fuse xs)) is).counters inside)
    (rw (lt-one (welded (run xs) is r).0) at (unravel-ravel (run xs) is r))

-- offsets are kept, at each operand
pub plan_dot : (k : ℕ) (xs : List Axis) (cs : List ℕ) → NoZero (extents xs) → Within (extents (fused_axes xs)) cs → dot cs (row k (fused_axes xs)) ≡ dot (unravel_index xs cs) (row k xs)
plan_dot k xs cs p r =
    dot_strip k (keep (fuse xs)) (fuse xs) cs r
    ∙ ap (dot (strip (keep (fuse xs)) cs)) (row_keep k (fuse xs))
    ∙ sym (+ℤ_idl (dot (strip (keep (fuse xs)) cs) (kept_by (extents (fuse xs)) (row k (fuse xs)))))
    ∙ ap (λ (z : ℤ). z +ℤ dot (strip (keep (fuse xs)) cs) (kept_by (extents (fuse xs)) (row k (fuse xs)))) (sym (zero-*ℤ (hd_z (row k (fuse xs)))))
    ∙ sym (dot-unravel (fuse_fits k xs) (strip (keep (fuse xs)) cs) 0 p zero<one (in_kept xs cs r))
    ∙ ap (λ (l : List ℕ). dot l (row k (fuse xs))) (unravel_strip (extents xs) (fuse xs) cs 0)
    ∙ ap (dot (unravel_index xs cs)) (row-fuse k xs)
