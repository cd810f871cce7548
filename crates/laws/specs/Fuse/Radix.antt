-- Mixed radix along fused axes, over extents alone: `ravel` and `unravel` undo each other and stay in range. No record of groups is needed:
-- an axis whose fused extent is not 1 takes the next counter, any other goes on with what is left of the last.
-- Assumes nothing.
use Rattle.std.specs.Prelude.{◌≡◌, refl, false, List, [], ◌∷◌, ℕ, ◌*◌, ◌/◌, ◌<◌, eqb}
use Rattle.std.proofs.Common.{sym, ap, mod-lt, div-add-mod', div-lt_iff_lt-mul, arith}
use Rattle.std.proofs.Math.Arith.{digits_div, digits_mod, digits_lt, lt-one}
use Rattle.strided.specs.Base.{unless}
use Rattle.strided.specs.Index.{unravel, ravel}
use Rattle.strided.specs.Layout.{total, Within, NoZero}

-- the extents other than 1
abbrev pub kept : List ℕ → List ℕ
kept [] = []
kept (f ∷ fs) = unless (eqb f 1) f (kept fs)

-- `Run es fs l`: each fused extent that is not 1 is its axis' own extent times those of the run of 1s behind it, and l is the product of the
-- extents over the run of 1s in front
pub data Run : List ℕ → List ℕ → ℕ → Type 0 where
  done : Run [] [] 1
  more : {e l : ℕ} {es fs : List ℕ} → Run es fs l → Run (e ∷ es) (1 ∷ fs) (l * e)
  top : {e f l : ℕ} {es fs : List ℕ} → eqb f 1 ≡ false → f ≡ l * e → Run es fs l → Run (e ∷ es) (f ∷ fs) 1

-- what a counter runs over, below its extent
pub told : {es fs : List ℕ} {l : ℕ} → Run es fs l → (cs : List ℕ) (x : ℕ) → NoZero es → x < l → Within (kept fs) cs → Within es (unravel es fs cs x)
told done cs x p h r = tt
told (more {e} {l} s) cs x p h r = (mod-lt x p.0, told s cs (x / e) p.1 ((div-lt_iff_lt-mul p.0).1 h) r)
told (top {e} {f} {l} q g s) [] x p h r = absurd (rw q at r)
told (top {e} {f} {l} {fs = fs} q g s) (c ∷ cs) x p h r =
    let r' : (c < f) × Within (kept fs) cs = rw q at r in
    rw q (mod-lt c p.0, told s cs (c / e) p.1 ((div-lt_iff_lt-mul p.0).1 (rw g at r'.0)) r'.1)

-- back from what was told are the counters
pub ravel-unravel : {es fs : List ℕ} {l : ℕ} → Run es fs l → (cs : List ℕ) (x : ℕ) → NoZero es → x < l → Within (kept fs) cs → ravel es fs (unravel es fs cs x) ≡ record { left = x; counters = cs }
ravel-unravel done [] x p h r = ap (λ (n : ℕ). record { left = n; counters = [] }) (sym (lt-one h))
ravel-unravel done (c ∷ cs) x p h r = absurd r
ravel-unravel (more {e} {l} {es} {fs} s) cs x p h r =
    rw (ravel-unravel s cs (x / e) p.1 ((div-lt_iff_lt-mul p.0).1 h) r, div-add-mod' x e)
ravel-unravel (top {e} {f} {l} q g s) [] x p h r = absurd (rw q at r)
ravel-unravel (top {e} {f} {l} {es} {fs} q g s) (c ∷ cs) x p h r =
    let r' : (c < f) × Within (kept fs) cs = rw q at r in
    rw (q, ravel-unravel s cs (c / e) p.1 ((div-lt_iff_lt-mul p.0).1 (rw g at r'.0)) r'.1, div-add-mod' c e, lt-one h)

-- what goes back is in range
pub welded : {es fs : List ℕ} {l : ℕ} → Run es fs l → (is : List ℕ) → Within es is → ((ravel es fs is).left < l) × Within (kept fs) (ravel es fs is).counters
welded done [] r = (omega arith, tt)
welded done (i ∷ is) r = absurd r
welded (more s) [] r = absurd r
welded (more s) (i ∷ is) r = (digits_lt (welded s is r.1).0 r.0, (welded s is r.1).1)
welded (top q g s) [] r = absurd r
welded (top q g s) (i ∷ is) r = rw (q, g) (omega arith, (digits_lt (welded s is r.1).0 r.0, (welded s is r.1).1))

-- and what is told of it is where it came from
pub unravel-ravel : {es fs : List ℕ} {l : ℕ} → Run es fs l → (is : List ℕ) → Within es is → unravel es fs (ravel es fs is).counters (ravel es fs is).left ≡ is
unravel-ravel done [] r = refl
unravel-ravel done (i ∷ is) r = absurd r
unravel-ravel (more s) [] r = absurd r
unravel-ravel (more {e} {l} {es} {fs} s) (i ∷ is) r =
    rw (digits_mod (ravel es fs is).left r.0, digits_div (ravel es fs is).left r.0, unravel-ravel s is r.1)
unravel-ravel (top q g s) [] r = absurd r
unravel-ravel (top {e} {f} {l} {es} {fs} q g s) (i ∷ is) r =
    rw (q, digits_mod (ravel es fs is).left r.0, digits_div (ravel es fs is).left r.0, unravel-ravel s is r.1)

-- the total is kept
pub run-total : {es fs : List ℕ} {l : ℕ} → Run es fs l → total es ≡ l * total fs
run-total done = refl
run-total (more {e} {l} {es} {fs} s) = rw (run-total s) (omega arith)
run-total (top {e} {f} {l} {es} {fs} q g s) = rw (run-total s, g) (omega arith)
