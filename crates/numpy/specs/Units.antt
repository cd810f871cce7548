-- Bytes and elements: a stride in one unit and back, and the strides of a packed array as our order has them.
-- Assumes nothing.
use Rattle.std.specs.Prelude.{◌≡◌, refl, false, not, List, [], ◌∷◌, ◌++◌, map, ℕ, zero, suc, ◌*◌, ◌/◌, ◌%◌, ◌^◌, ◌<◌, eqb, ℤ, pos, negsuc, neg_ℤ, nat_abs, length, get_or, take}
use Rattle.std.proofs.Common.{sym, ap, ap₂, ◌∙◌, mul_comm, mul_assoc, one-mul, mul-one, mul-div_cancel, div-add-mod', arith, eqb-true, eq-eqb}
use Rattle.std.proofs.Math.Nat.{mul-div_cancel_left, mul-mod_left}
use Rattle.std.proofs.lemmas.Bool.{not-false}
use Rattle.std.specs.List.{AllZip}
use Rattle.strided.specs.Base.{padded}
use Rattle.strided.specs.Layout.{total}
use Rattle.laws.specs.Base.Integers.{nat_abs_product}
use Rattle.numpy.specs.Numpy.{reversed, afters, element_stride, byte_stride, no_multiple}
use Rattle.numpy.specs.Reversing.{total-append}

-- ---- one stride

-- a multiple is so many times the size
pub multiple_of : (size : ℕ) (b : ℤ) → no_multiple size b ≡ false → nat_abs b / size * size ≡ nat_abs b
multiple_of size b h =
    let z : nat_abs b % size ≡ 0 = eqb-true (nat_abs b % size) 0 (not-false (eqb (nat_abs b % size) 0) h) in
    omega (arith, div-add-mod' (nat_abs b) size)

-- from bytes to elements and back
pub bytes_again : (size : ℕ) (b : ℤ) → no_multiple size b ≡ false → byte_stride size (element_stride size b) ≡ b
bytes_again size (pos n) h = ap pos (multiple_of size (pos n) h)
bytes_again size (negsuc k) h = go (suc k / size) (multiple_of size (negsuc k) h)
  where
    go : (q : ℕ) → q * size ≡ suc k → byte_stride size (neg_ℤ (pos q)) ≡ negsuc k
    go zero e = absurd (omega arith)
    go (suc j) e = ap (λ (n : ℕ). neg_ℤ (pos n)) e

-- from elements to bytes and back
pub elements_again : (size : ℕ) (z : ℤ) → 0 < size → element_stride size (byte_stride size z) ≡ z
elements_again size (pos n) h = ap pos (mul-div_cancel n h)
elements_again size (negsuc k) h = go (suc k * size) refl
  where
    go : (m : ℕ) → suc k * size ≡ m → element_stride size (neg_ℤ (pos m)) ≡ negsuc k
    go zero e = absurd (omega arith)
    go (suc m) e = ap (λ (n : ℕ). neg_ℤ (pos n)) (ap (λ (n : ℕ). n / size) (sym e) ∙ mul-div_cancel (suc k) h)

-- a computed byte stride is a multiple
pub bytes_multiple : (size : ℕ) (z : ℤ) → no_multiple size (byte_stride size z) ≡ false
bytes_multiple size z =
    ap not (eq-eqb (nat_abs (byte_stride size z) % size) 0 (ap (λ (n : ℕ). n % size) (nat_abs_product z (pos size)) ∙ mul-mod_left (nat_abs z) size))

-- ---- packed

-- 1, and then with each extent the product of those so far: the strides of a packed array in our order
abbrev pub firsts : ℕ → List ℕ → List ℕ
firsts p [] = []
firsts p (e ∷ es) = p ∷ firsts (p * e) es

pub length-firsts : (p : ℕ) (es : List ℕ) → length (firsts p es) ≡ length es
length-firsts p [] = refl
length-firsts p (e ∷ es) = ap suc (length-firsts (p * e) es)

pub firsts_at : (p : ℕ) (es : List ℕ) (i : ℕ) → i < length es → get_or (firsts p es) i 0 ≡ p * total (take i es)
firsts_at p [] i h = absurd (omega arith)
firsts_at p (e ∷ es) zero h = sym (mul-one p)
firsts_at p (e ∷ es) (suc i) h = firsts_at (p * e) es i (omega arith) ∙ mul_assoc p e (total (take i es))

firsts_more : (p : ℕ) (es : List ℕ) (e : ℕ) → firsts p (es ++ (e ∷ [])) ≡ firsts p es ++ ((p * total es) ∷ [])
firsts_more p [] e = ap (λ (n : ℕ). n ∷ []) (sym (mul-one p))
firsts_more p (x ∷ es) e = ap (λ (l : List ℕ). p ∷ l) (firsts_more (p * x) es e ∙ ap (λ (n : ℕ). firsts (p * x) es ++ (n ∷ [])) (mul_assoc p x (total es)))

pub total-reversed : (es : List ℕ) → total (reversed es) ≡ total es
total-reversed [] = refl
total-reversed (e ∷ es) = total-append (reversed es) e ∙ ap (λ (n : ℕ). n * e) (total-reversed es) ∙ mul_comm (total es) e

-- the products after each axis, read from the last axis on, are those before each axis of the reversed shape
pub reversed-afters : (es : List ℕ) → reversed (afters es) ≡ firsts 1 (reversed es)
reversed-afters [] = refl
reversed-afters (e ∷ es) =
    ap₂ (λ (l : List ℕ) (n : ℕ). l ++ (n ∷ [])) (reversed-afters es) (sym (total-reversed es) ∙ sym (one-mul (total (reversed es))))
    ∙ sym (firsts_more 1 (reversed es) e)

-- a packed byte stride in elements is the product of the extents after its axis
pub packed_elements : (size : ℕ) → 0 < size → (ns : List ℕ) → map (element_stride size) (map pos (map (λ (n : ℕ). size * n) ns)) ≡ map pos ns
packed_elements size h [] = refl
packed_elements size h (n ∷ ns) = ap₂ (λ (z : ℤ) (l : List ℤ). z ∷ l) (ap pos (mul-div_cancel_left n h)) (packed_elements size h ns)

-- all products of leading extents, but for the last extent, are within 64-bit signed
abbrev pub Near : List ℕ → Type 0
Near es = (i : ℕ) → i < length es → total (take i es) < 2 ^ 63

-- ---- an array that calls fill

-- the array holds what calls answer, R telling of each number and its answer, from the last number to the first, and zeros behind
pub record Turns {A : Type 0} (R : A → A → Type 0) (z : A) (xs out : List A) : Type 0 where
  pub results : List A
  pub each : AllZip R (reversed xs) results
  pub laid : out ≡ padded 64 z results
