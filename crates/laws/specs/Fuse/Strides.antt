-- One operand's strides along fused axes: what the strides of joined axes are to each other, and that the offset of a plan index is the
-- offset of the index told.
-- Assumes nothing.
use Rattle.std.specs.Prelude.{◌≡◌, ◌⊎◌, false, List, [], ◌∷◌, ℕ, ◌*◌, ◌/◌, ◌%◌, ◌<◌, eqb, ℤ, pos, ◌+ℤ◌, ◌*ℤ◌}
use Rattle.std.proofs.Common.{ap, ◌∙◌, subst, inl, inr, one-mul, div-lt_iff_lt-mul, mod-eq_of_lt}
use Rattle.std.proofs.Math.Nat.{mod-add-div', div-eq_of_lt}
use Rattle.std.proofs.Math.Arith.{lt-one}
use Rattle.std.proofs.Math.IntN.{+ℤ_idl, +ℤ_idr, +ℤ_assoc, zero-*ℤ}
use Rattle.laws.specs.Base.Integers.{add-*ℤ, *ℤ-assoc}
use Rattle.laws.specs.Fuse.Radix.{kept, Run}
use Rattle.laws.specs.Fuse.Radix.Run.{done, more, top}
use Rattle.strided.specs.Base.{unless}
use Rattle.strided.specs.Index.{unravel}
use Rattle.strided.specs.Layout.{Within, NoZero, dot}

abbrev pub hd_z : List ℤ → ℤ
hd_z [] = pos 0
hd_z (s ∷ ss) = s

-- what stands at the axes whose extent is not 1
abbrev pub kept_by : {A : Type 0} → List ℕ → List A → List A
kept_by [] xs = []
kept_by (f ∷ fs) [] = []
kept_by (f ∷ fs) (a ∷ xs) = unless (eqb f 1) a (kept_by fs xs)

-- nothing is carried on from an axis of extent e and stride s, or the next stride is e times s
abbrev pub Link : ℕ → ℤ → ℕ → List ℤ → Type 0
Link e s l ss = (l ≡ 1) ⊎ (hd_z ss ≡ pos e *ℤ s)

-- `Run`, with an operand's strides that allow it
pub data StrideRun : List ℕ → List ℕ → List ℤ → ℕ → Type 0 where
  sdone : StrideRun [] [] [] 1
  smore : {e l : ℕ} {s : ℤ} {es fs : List ℕ} {ss : List ℤ} → Link e s l ss → StrideRun es fs ss l → StrideRun (e ∷ es) (1 ∷ fs) (s ∷ ss) (l * e)
  stop : {e f l : ℕ} {s : ℤ} {es fs : List ℕ} {ss : List ℤ} → eqb f 1 ≡ false → f ≡ l * e → Link e s l ss → StrideRun es fs ss l → StrideRun (e ∷ es) (f ∷ fs) (s ∷ ss) 1

pub run_of : {es fs : List ℕ} {ss : List ℤ} {l : ℕ} → StrideRun es fs ss l → Run es fs l
run_of sdone = done
run_of (smore k r) = more (run_of r)
run_of (stop q g k r) = top q g (run_of r)

carry : (e l x : ℕ) (s : ℤ) (ss : List ℤ) → Link e s l ss → x < l * e → pos (x % e) *ℤ s +ℤ pos (x / e) *ℤ hd_z ss ≡ pos x *ℤ s
carry e l x s ss (inl k) h =
    let h' : x < e = subst (λ (n : ℕ). x < n) (ap (λ (n : ℕ). n * e) k ∙ one-mul e) h in
    rw (mod-eq_of_lt h', div-eq_of_lt h', zero-*ℤ (hd_z ss), +ℤ_idr (pos x *ℤ s))
carry e l x s ss (inr k) h =
    rw (k, ← (*ℤ-assoc (pos (x / e)) (pos e) s), ← (add-*ℤ (pos (x % e)) (pos (x / e * e)) s)) (ap (λ (n : ℕ). pos n *ℤ s) (mod-add-div' x e))

pub dot-unravel : {es fs : List ℕ} {ss : List ℤ} {l : ℕ} → StrideRun es fs ss l → (cs : List ℕ) (x : ℕ) → NoZero es → x < l → Within (kept fs) cs
    → dot (unravel es fs cs x) ss ≡ pos x *ℤ hd_z ss +ℤ dot cs (kept_by fs ss)
dot-unravel sdone [] x p h r = rw (lt-one h)
dot-unravel sdone (c ∷ cs) x p h r = absurd r
dot-unravel (smore {e} {l} {s} {es} {fs} {ss} k t) cs x p h r =
    rw (dot-unravel t cs (x / e) p.1 ((div-lt_iff_lt-mul p.0).1 h) r, ← (+ℤ_assoc (pos (x % e) *ℤ s) (pos (x / e) *ℤ hd_z ss) (dot cs (kept_by fs ss))), carry e l x s ss k h)
dot-unravel (stop {e} {f} {l} {s} {es} {fs} {ss} q g k t) [] x p h r = absurd (rw q at r)
dot-unravel (stop {e} {f} {l} {s} {es} {fs} {ss} q g k t) (c ∷ cs) x p h r =
    let r' : (c < f) × Within (kept fs) cs = rw q at r in
    let h' : c < l * e = rw g at r'.0 in
    rw (
      q,
      lt-one h,
      dot-unravel t cs (c / e) p.1 ((div-lt_iff_lt-mul p.0).1 h') r'.1,
      ← (+ℤ_assoc (pos (c % e) *ℤ s) (pos (c / e) *ℤ hd_z ss) (dot cs (kept_by fs ss))),
      carry e l c s ss k h',
      zero-*ℤ s,
      +ℤ_idl (pos c *ℤ s +ℤ dot cs (kept_by fs ss)),
    )
