-- Regions and loads grow with the blocks. Assumes nothing.
use Rattle.std.proofs.Math.Path.{subst⁻¹}
use Rattle.std.specs.Prelude.{List, ℕ, zero, suc, ◌+◌, ◌*◌, ◌/◌, ◌<◌, ◌≤◌, ltb, get_or, set, length}
use Rattle.std.proofs.Common.{⊎_elim, mul-le-mul, mul-le-mul_left, le_refl, le_trans, zero-mul, le-div_iff_mul-le, div-mul-le_self, arith, get_or-set_same, get_or-set_other}
use Rattle.std.proofs.Math.Decide.{ℕ_discrete}
use Rattle.std.proofs.Math.Seq.{set_out}
use Rattle.strided.specs.Region.{byte_at, near, far, region_of, region}
use Rattle.strided.specs.Fit.{reuse, counts, aliases, factor, load_of, load}
use Rattle.strided.specs.declared.Machine.{Machine}
use Rattle.laws.specs.Cut.Ranges.{le_or_lt, cond_mono, sum_termwise, product_termwise}

-- whole lines of l bytes; l may be 0
lines_mono : (l x y : ℕ) → x ≤ y → l * (x / l + 1) ≤ l * (y / l + 1)
lines_mono zero x y h = omega (arith, zero-mul (x / 0 + 1))
lines_mono (suc l) x y h =
    let q : x / suc l ≤ y / suc l = (le-div_iff_mul-le {k = suc l} {x = x / suc l} {y = y} (omega arith)).1 (le_trans (div-mul-le_self x (suc l)) h) in
    mul-le-mul_left (suc l) (omega arith)

pub region_mono : (mc : Machine) (bytes : List ℕ) (operands : ℕ) (b b' : List ℕ) (o n : ℕ) → ((i : ℕ) → get_or b i 0 ≤ get_or b' i 0)
    → region mc bytes operands b o n ≤ region mc bytes operands b' o n
unfolding region region_of
region_mono mc bytes operands b b' o n h = sum_termwise (region_of mc bytes b o n) (region_of mc bytes b' o n)
    (λ k.
    let c = sum_termwise (near mc bytes b k) (near mc bytes b' k)
    (λ i. cond_mono (ltb (byte_at bytes k i) mc.line) (mul-le-mul_left (byte_at bytes k i) (let q = h i in omega arith)) (le_refl 0)) o n in
    let m = product_termwise (far mc bytes b k) (far mc bytes b' k)
    (λ i. cond_mono (ltb (byte_at bytes k i) mc.line) (le_refl 1) (h i)) o n in
    mul-le-mul (lines_mono mc.line _ _ c) m)
    0 operands

pub load_mono : (mc : Machine) (bytes sizes : List ℕ) (rank : ℕ) (b b' : List ℕ) → ((i : ℕ) → get_or b i 0 ≤ get_or b' i 0)
    → load mc bytes sizes rank b ≤ load mc bytes sizes rank b'
unfolding load load_of
load_mono mc bytes sizes rank b b' h = sum_termwise (load_of mc bytes sizes rank b) (load_of mc bytes sizes rank b')
    (λ k. cond_mono (counts mc bytes sizes rank k)
    (product_termwise (factor mc bytes b k) (factor mc bytes b' k) (λ i. cond_mono (aliases mc (byte_at bytes k i)) (h i) (le_refl 1)) 0 (reuse mc bytes rank k)) (le_refl 0))
    0 2

pub set_mono : (b : List ℕ) (i x y : ℕ) → x ≤ y → (j : ℕ) → get_or (set b i x) j 0 ≤ get_or (set b i y) j 0
set_mono b i x y h j = elim (ℕ_discrete j i) [
  | yes e ↦ subst⁻¹ (λ (k : ℕ). get_or (set b i x) k 0 ≤ get_or (set b i y) k 0) e (⊎_elim
      (λ (o : length b ≤ i). subst⁻¹ (λ (l : List ℕ). get_or l i 0 ≤ get_or (set b i y) i 0) (set_out b i x o)
      (subst⁻¹ (λ (l : List ℕ). get_or b i 0 ≤ get_or l i 0) (set_out b i y o) (le_refl (get_or b i 0))))
      (λ (o : i < length b). let p = get_or-set_same b i x 0 o in let q = get_or-set_same b i y 0 o in omega arith)
      (le_or_lt (length b) i))
  | no e ↦ let p = get_or-set_other b i j x 0 e in let q = get_or-set_other b i j y 0 e in omega arith
]
