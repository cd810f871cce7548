-- PACKED IS C ORDER: the last axis runs quickest, and the cells lie one behind the other, the size of an element apart. In our order the element
-- strides are 1 on axis 0, and on each axis the product of the extents before it.
-- Assumes nothing.
use Rattle.std.specs.Prelude.{◌≡◌, refl, false, not, List, [], ◌∷◌, map, ℕ, ◌+◌, ◌*◌, ◌/◌, ◌%◌, ◌<◌, eqb, pos, None, Some}
use Rattle.std.proofs.Common.{sym, ap, ◌∙◌, mul_comm, mul_assoc, zero-mul, div-add-mod', mod-lt, arith, eq-eqb}
use Rattle.std.proofs.Math.Nat.{mul-mod_right, one-le-mul}
use Rattle.strided.specs.Layout.{total, NoZero}
use Rattle.strided.specs.Refusals.{refused_by}
use Rattle.laws.specs.Base.Refusals.{NoneApplies, none_applies}
use Rattle.laws.specs.Base.Tests.{or_none}
use Rattle.std.specs.List.{list_any}
use Rattle.numpy.specs.Numpy.{reversed, afters, packed, extents_of, strides_of, no_multiple, too_far, from_rows, described}
use Rattle.numpy.specs.Readers.{saying}
use Rattle.numpy.specs.Reversing.{reversed-map}
use Rattle.numpy.specs.Units.{firsts, reversed-afters, packed_elements}

-- index n of a shape, the last axis quickest
abbrev pub c_index : List ℕ → ℕ → List ℕ
c_index [] n = []
c_index (e ∷ es) n = n / total es ∷ c_index es (n % total es)

-- how many bytes an index lies behind the first
abbrev pub bytes_to : List ℕ → List ℕ → ℕ
bytes_to [] bs = 0
bytes_to (x ∷ xs) [] = 0
bytes_to (x ∷ xs) (b ∷ bs) = x * b + bytes_to xs bs

total_some : (es : List ℕ) → NoZero es → 0 < total es
total_some [] z = omega arith
total_some (e ∷ es) z = one-le-mul z.0 (total_some es z.1)

-- THE CELLS LIE IN A ROW
pub packed-row : (size : ℕ) (es : List ℕ) → NoZero es → (n : ℕ) → n < total es → bytes_to (c_index es n) (packed size es) ≡ n * size
packed-row size [] z n h = let e : n ≡ 0 = omega arith in sym (ap (λ (k : ℕ). k * size) e ∙ zero-mul size)
packed-row size (e ∷ es) z n h =
    let t : ℕ = total es in
    let r = packed-row size es z.1 (n % t) (mod-lt n (total_some es z.1)) in
    let a : n / t * (size * t) ≡ n / t * t * size = ap (λ (k : ℕ). n / t * k) (mul_comm size t) ∙ sym (mul_assoc (n / t) t size) in
    let d : (n / t * t + n % t) * size ≡ n * size = ap (λ (k : ℕ). k * size) (div-add-mod' n t) in
    omega (arith, r, a, d)

-- in elements and our order
pub packed_strides : (size rank : ℕ) (es : List ℕ) → 0 < size → strides_of (saying size rank es None) ≡ map pos (firsts 1 (extents_of (saying size rank es None)))
packed_strides size rank es p = ap reversed (packed_elements size p (afters es)) ∙ reversed-map pos (afters es) ∙ ap (map pos) (reversed-afters es)

-- ABSENT MEANS THOSE: a description without T says what it says with its packed strides
none_odd : (size : ℕ) (ns : List ℕ) → list_any (no_multiple size) (map pos (map (λ (n : ℕ). size * n) ns)) ≡ false
none_odd size [] = refl
none_odd size (n ∷ ns) = rw (ap not (eq-eqb (size * n % size) 0 (mul-mod_right size n))) (none_odd size ns)

pub packed-given : (size rank : ℕ) (es : List ℕ) → refused_by (from_rows (saying size rank es None)) ≡ None
    → described (saying size rank es None) ≡ described (saying size rank es (Some (map pos (packed size es))))
unfolding described NoneApplies
packed-given size rank es h =
    let a = none_applies (from_rows (saying size rank es None)) h in
    let p = or_none (eqb size 0) (list_any too_far (packed size es)) a.0 in
    rw (p.0, p.1, none_odd size (afters es), a.1.0)
