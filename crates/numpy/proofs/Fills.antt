-- Loops that fill an array of 64 places from the last element of a list to its first, and those of packed strides.
-- Assumes nothing.
use mathlib.Core.Path.{◌≡◌, refl, sym, ap, ap₂, ◌∙◌, subst}
use mathlib.Core.List.{List, [], ◌∷◌, ◌++◌, map}
use Prim.Native.Nat.{ℕ, zero, suc, ◌+◌, ◌-◌, ◌*◌, ◌^◌, ◌≤◌, ◌<◌, min}
use native.Mathlib.Nat.{one-mul}
use native.Mathlib.Omega.{arith}
use lib.IntN.{ℤ, pos}
use lib.ListN.{length, get_or, take, set, length-map}
use lib.Seq.{take_all, take-suc}
use native.Mathlib.Numerals.{add-one}
use Rattle.std.specs.List.{AllZip}
use Rattle.std.proofs.lemmas.List.{length-take-le}
use Rattle.std.proofs.lemmas.List.Elements.{all_zip_more, length_all_zip}
use Rattle.strided.specs.Base.{padded}
use Rattle.strided.specs.Layout.{total}
use Rattle.laws.specs.Base.Stores.{fill_first, set_behind}
use Rattle.numpy.specs.Numpy.{reversed}
use Rattle.numpy.specs.Reversing.{length-reversed, get_d_reversed, reversed-map, total-append}
use Rattle.numpy.specs.Units.{firsts, length-firsts, firsts_at, Near, Turns}

pub map_at : {A B : Type 0} (f : A → B) (xs : List A) (d : A) (z : B) (i : ℕ) → i < length xs → get_or (map f xs) i z ≡ f (get_or xs i d)
map_at f [] d z i h = absurd (omega arith)
map_at f (x ∷ xs) d z zero h = refl
map_at f (x ∷ xs) d z (suc i) h = map_at f xs d z i (omega arith)

-- an array that holds the first i of vs and zeros behind
module _ {A : Type 0} (z : A) (vs : List A) where
  pub filling_turn : (n i : ℕ) → length vs ≡ n → n ≤ 64 → i < n → {out : List A} {v : A} → out ≡ padded 64 z (take i vs) → v ≡ get_or vs i z
      → set out i v ≡ padded 64 z (take (i + 1) vs)
  filling_turn n i l h b e q = rw (e, q) (fill_first z 64 vs i (omega (arith, l, h)) (omega (arith, l, b)))

  pub filling_end : (n i : ℕ) → length vs ≡ n → n ≤ i → {out : List A} → out ≡ padded 64 z (take i vs) → out ≡ padded 64 z vs
  filling_end n i l h e = e ∙ ap (padded 64 z) (take_all i vs (omega (arith, l, h)))

pub turned-length : (f : ℤ → ℤ) (xs : List ℤ) → length (reversed (map f xs)) ≡ length xs
turned-length f xs = length-reversed (map f xs) ∙ length-map xs f

-- an array that holds what calls answered to the last i numbers, the last one first, and zeros behind
module _ {A : Type 0} (R : A → A → Type 0) (z : A) (xs : List A) where
  pub record Turning (i : ℕ) (out : List A) : Type 0 where
    pub results : List A
    pub each : AllZip R (take i (reversed xs)) results
    pub laid : out ≡ padded 64 z results

  pub turning_turn : (i : ℕ) → length xs ≤ 64 → i < length xs → {out : List A} → Turning i out → {x r : A} → x ≡ get_or xs (length xs - 1 - i) x → R x r
      → Turning (i + 1) (set out i r)
  turning_turn i l h {out} t {x} {r} e q =
      let rs : List A = t.results in
      let ys : List A = reversed xs in
      let b : i < length ys = omega (arith, h, length-reversed xs) in
      let n : length rs ≡ i = sym (length_all_zip R (take i ys) rs t.each) ∙ length-take-le i ys (omega (arith, b)) in
      record {
        results = rs ++ (r ∷ []);
        each = all_zip_more R ys rs i x r b (e ∙ sym (get_d_reversed xs x i h)) t.each q;
        laid = ap (λ (k : List A). set k i r) t.laid ∙ ap (λ (k : ℕ). set (padded 64 z rs) k r) (sym n) ∙ set_behind z 64 rs r (omega (arith, n, h, l));
      }

  pub turning_end : (i : ℕ) → length xs ≤ i → {out : List A} → Turning i out → Turns R z xs out
  turning_end i h t =
      record {
        results = t.results;
        each = subst (λ (x : List A). AllZip R x t.results) (take_all i (reversed xs) (let l = length-reversed xs in omega (arith, l, h))) t.each;
        laid = t.laid;
      }

-- where each answer is what v makes of its number, the array is that list
module _ {A : Type 0} (R : A → A → Type 0) (v : A → A) where
  mapped : (xs ys : List A) → ((x y : A) → R x y → y ≡ v x) → AllZip R xs ys → ys ≡ map v xs
  mapped [] [] f a = refl
  mapped [] (y ∷ ys) f a = absurd a
  mapped (x ∷ xs) [] f a = absurd a
  mapped (x ∷ xs) (y ∷ ys) f a = ap₂ (λ (w : A) (l : List A). w ∷ l) (f x y a.0) (mapped xs ys f a.1)

  pub turned-map : (z : A) (xs : List A) {out : List A} → Turns R z xs out → ((x y : A) → R x y → y ≡ v x) → out ≡ padded 64 z (reversed (map v xs))
  turned-map z xs t f = t.laid ∙ ap (padded 64 z) (mapped (reversed xs) t.results f t.each ∙ sym (reversed-map v xs))

-- ---- packed strides: `step` is the product of the first i extents, cut at 2^63

module _ (es : List ℕ) where
  pub packed-length : length (map pos (firsts 1 es)) ≡ length es
  packed-length = length-map (firsts 1 es) pos ∙ length-firsts 1 es

  pub step-near : (i step : ℕ) → Near es → i < length es → step ≡ min (total (take i es)) (2 ^ 63) → step ≡ total (take i es)
  step-near i step n h e = let l = n i h in omega (arith, e, l)

  pub packed-at : (i step : ℕ) → i < length es → step ≡ total (take i es) → pos step ≡ get_or (map pos (firsts 1 es)) i (pos 0)
  packed-at i step h e =
      let l = length-firsts 1 es in
      ap pos (e ∙ sym (one-mul (total (take i es))) ∙ sym (firsts_at 1 es i h)) ∙ sym (map_at pos (firsts 1 es) 0 (pos 0) i (omega (arith, l, h)))

  pub step_turn : (i step r : ℕ) → i < length es → step ≡ total (take i es) → r ≡ min (step * get_or es i 0) 9223372036854775808
      → r ≡ min (total (take (i + 1) es)) (2 ^ 63)
  step_turn i step r h e q =
      let t : total (take (i + 1) es) ≡ total (take i es) * get_or es i 0 =
      ap (λ (k : ℕ). total (take k es)) (add-one i) ∙ ap total (take-suc es i 0 h) ∙ total-append (take i es) (get_or es i 0) in
      q ∙ ap (λ (k : ℕ). min (k * get_or es i 0) (2 ^ 63)) e ∙ ap (λ (k : ℕ). min k (2 ^ 63)) (sym t)
