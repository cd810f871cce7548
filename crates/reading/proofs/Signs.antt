-- A number with a sign: `-` and a size, or a size alone. The size that stands there tells the number, and none that is out of its range.
-- Assumes nothing.
use mathlib.Core.Path.{◌≡◌, sym, ap, ◌∙◌}
use mathlib.Core.List.{List, ◌∷◌, ◌++◌}
use Prim.Native.Nat.{ℕ, suc, ◌^◌, ◌<◌}
use native.Mathlib.Omega.{arith}
use lib.IntN.{ℤ, pos, negsuc}
use Rattle.strided.specs.Digits.{digits_of, signed_of}
use Rattle.strided.specs.Text.{FitU, FitI}
use mir.Syntax.{w64}
use mir.Val.{to_z, of_z}
use Rattle.laws.specs.Base.Bits.{read_back}
use Rattle.laws.specs.Text.Numbers.{tail, digits_no_sign, digits_once}
use Rattle.reading.specs.Here.{Here, Nowhere}
use Rattle.reading.specs.Numbers.{ReadsSigned, Minus, Plus}
use Rattle.reading.proofs.Answers.{is_value, is_bad, here_once}
use Rattle.std.specs.Borrow.{Bor}
use Rattle.std.specs.Prelude.{Some, None}

-- a number as its bits, read back
abbrev back : ℤ → ℤ
back z = to_z w64 (of_z w64 z)

-- ---- `-` and a size

module _ {t u : List ℕ} (e : t ≡ 45 ∷ u) where
  below : {k : ℕ} {rest : List ℕ} → Here digits_of FitU u (suc k) rest → k < 2 ^ 63 → Here signed_of FitI t (negsuc k) rest
  below h low = record { fits = low; form = e ∙ ap (λ (l : List ℕ). 45 ∷ l) h.form; stops = h.stops }

  below_none : ((k : ℕ) (rest : List ℕ) → k < 2 ^ 63 → Here digits_of FitU u (suc k) rest → ⊥) → Nowhere signed_of FitI t
  below_none none (pos n) rest h = digits_no_sign n rest u (sym h.form ∙ e)
  below_none none (negsuc k) rest h =
      none k rest h.fits (record { fits = let f : k < 2 ^ 63 = h.fits in omega arith; form = ap tail (sym e ∙ h.form); stops = h.stops })

  pub minus_reads : {n : ℕ} {z : ℤ} {rest : Bor (List ℕ)} → Here digits_of FitU u n rest.now → Minus n (Some z) → ReadsSigned signed_of t (Some (back z, rest))
  minus_reads {rest = rest} h m =
      rw (ap back m.3 ∙ read_back (negsuc m.0) m.2) (is_value signed_of FitI (negsuc m.0) rest (below (rw m.1 at h) m.2))

  pub minus_out : {n : ℕ} {rest : List ℕ} → Here digits_of FitU u n rest → Minus n None → ReadsSigned signed_of t None
  minus_out h m = is_bad signed_of FitI (below_none (λ k rest low g. m k (here_once digits_of digits_once h g).0 low))

  pub minus_none : Nowhere digits_of FitU u → ReadsSigned signed_of t None
  minus_none none = is_bad signed_of FitI (below_none (λ k rest low h. none (suc k) rest h))

-- ---- a size alone

above_none : (t : List ℕ) → ((rest : List ℕ) → t ≡ 45 ∷ rest → ⊥) → ((n : ℕ) (rest : List ℕ) → n < 2 ^ 63 → Here digits_of FitU t n rest → ⊥)
    → Nowhere signed_of FitI t
above_none t no_sign none (pos n) rest h =
    none n rest h.fits (record { fits = let f : n < 2 ^ 63 = h.fits in omega arith; form = h.form; stops = h.stops })
above_none t no_sign none (negsuc k) rest h = no_sign (digits_of (suc k) ++ rest) h.form

module _ {t : List ℕ} where
  pub plus_reads : {n : ℕ} {z : ℤ} {rest : Bor (List ℕ)} → Here digits_of FitU t n rest.now → Plus n (Some z) → ReadsSigned signed_of t (Some (back z, rest))
  plus_reads {n} {rest = rest} h m =
      let b : Here signed_of FitI t (pos n) rest.now = record { fits = m.0; form = h.form; stops = h.stops } in
      rw (ap back m.1 ∙ read_back (pos n) m.0) (is_value signed_of FitI (pos n) rest b)

  module _ (no_sign : (rest : List ℕ) → t ≡ 45 ∷ rest → ⊥) where
    pub plus_out : {n : ℕ} {rest : List ℕ} → Here digits_of FitU t n rest → Plus n None → ReadsSigned signed_of t None
    plus_out {n} h m =
        is_bad signed_of FitI (above_none t no_sign (λ k rest low g. (let e : n ≡ k = (here_once digits_of digits_once h g).0 in m (omega arith))))

    pub plus_none : Nowhere digits_of FitU t → ReadsSigned signed_of t None
    plus_none none = is_bad signed_of FitI (above_none t no_sign (λ n rest low h. none n rest h))
