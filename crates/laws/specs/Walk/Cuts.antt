-- A plan's extents with its block sizes: the cut axes have block sizes of 1 or more, the same indices and the same number of axes; where a
-- walk over them begins.
-- Assumes nothing.
use Rattle.std.specs.Prelude.{◌≡◌, refl, ◌↔◌, Bool, true, false, cond, ◌||◌, List, [], ◌∷◌, ℕ, zero, suc, eqb, length, None, Some}
use Rattle.std.proofs.Common.{ap, arith, ne_eqb, lt-ltb}
use Rattle.strided.specs.Base.{or_else}
use Rattle.strided.specs.Layout.{Within, has_zero}
use Rattle.strided.specs.Walk.{CutAxis, ax, effective, cut, cut_axes, zeros}
use Rattle.laws.specs.Walk.States.{Inside, Wide, begin}

cut_wide : (es bs : List ℕ) → Wide (cut es bs)
cut_wide [] bs = tt
cut_wide (e ∷ es) [] = (omega arith, cut_wide es [])
cut_wide (e ∷ es) (b ∷ bs) = (omega arith, cut_wide es bs)

pub axes_wide : (es bs : List ℕ) → Wide (cut_axes es bs)
axes_wide es bs = cut_wide es _

pub cut_inside : (es bs y : List ℕ) → Inside (cut es bs) y ↔ Within es y
cut_inside [] bs [] = (λ h. h, λ h. h)
cut_inside [] bs (x ∷ y) = (λ h. h, λ h. h)
cut_inside (e ∷ es) [] [] = (λ h. h, λ h. h)
cut_inside (e ∷ es) [] (x ∷ y) = (λ h. (h.0, (cut_inside es [] y).0 h.1), λ h. (h.0, (cut_inside es [] y).1 h.1))
cut_inside (e ∷ es) (b ∷ bs) [] = (λ h. h, λ h. h)
cut_inside (e ∷ es) (b ∷ bs) (x ∷ y) = (λ h. (h.0, (cut_inside es bs y).0 h.1), λ h. (h.0, (cut_inside es bs y).1 h.1))

-- ---- lengths

pub length_cut : (es bs : List ℕ) → length (cut es bs) ≡ length es
length_cut [] bs = refl
length_cut (e ∷ es) [] = ap suc (length_cut es [])
length_cut (e ∷ es) (b ∷ bs) = ap suc (length_cut es bs)

pub length-zeros : (axs : List CutAxis) → length (zeros axs) ≡ length axs
length-zeros [] = refl
length-zeros (a ∷ axs) = ap suc (length-zeros axs)

pub length_inside : (axs : List CutAxis) (c : List ℕ) → Inside axs c → length c ≡ length axs
length_inside [] [] i = refl
length_inside [] (x ∷ c) i = absurd i
length_inside (ax e w ∷ axs) [] i = absurd i
length_inside (ax e w ∷ axs) (x ∷ c) i = ap suc (length_inside axs c i.1)

-- ---- the beginning

begin-one : (e w : ℕ) (es bs : List ℕ) → begin (cut es bs) ≡ cond (has_zero es) None (Some (zeros (cut es bs)))
    → begin (ax e w ∷ cut es bs) ≡ cond (eqb e 0 || has_zero es) None (Some (zeros (ax e w ∷ cut es bs)))
begin-one zero w es bs h = refl
begin-one (suc e) w es bs h = rw (lt-ltb 0 (suc e) (omega arith), ne_eqb (suc e) 0 (λ q. omega arith), h) (go (has_zero es))
  where
    go : (b : Bool) → or_else None (λ v. 0 ∷ v) (cond b None (Some (zeros (cut es bs)))) ≡ cond b None (Some (0 ∷ zeros (cut es bs)))
    go true = refl
    go false = refl

-- a walk begins with all counters 0, or has ended at once where an extent is 0
pub begin_of : (es bs : List ℕ) → begin (cut es bs) ≡ cond (has_zero es) None (Some (zeros (cut es bs)))
begin_of [] bs = refl
begin_of (e ∷ es) [] = begin-one e 1 es [] (begin_of es [])
begin_of (e ∷ es) (b ∷ bs) = begin-one e (effective e b) es bs (begin_of es bs)
