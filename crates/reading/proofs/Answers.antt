-- The two answers of a reader of numbers, and that it can give no other value; a byte in front of a number, such as the comma of a field.
-- Assumes nothing.
use mathlib.Core.Path.{◌≡◌, sym, ap, ◌∙◌, subst}
use mathlib.Core.List.{List, ◌∷◌}
use Prim.Native.Nat.{ℕ}
use native.Mathlib.Omega.{arith}
use Rattle.strided.specs.Digits.{digits_of}
use Rattle.strided.specs.Text.{field}
use Rattle.laws.specs.Text.Numbers.{tail, digits_once}
use Rattle.laws.specs.Text.Once.{Once, cell_once}
use Rattle.reading.specs.Here.{Here, Nowhere, Finds}
use Rattle.std.specs.Borrow.{Bor}
use Rattle.std.specs.Prelude.{Option, Some, None}

-- two variants are never one answer: `clash (cc)` where both are said
pub clash : {A : Type 0} → ◌≡◌ {A = ℕ} 0 1 → A
clash z = absurd (omega arith)

-- one answer says one value and one rest
pub same_found : {A : Type 0} (P : A → Bor (List ℕ) → Type 0) {v w : A} {x y : Bor (List ℕ)} → ◌≡◌ {A = Option (A × Bor (List ℕ))} (Some (v, x)) (Some (w, y)) → P v x → P w y
same_found {A} P {v} {w} {x} {y} e h = let q : ◌≡◌ {A = A × Bor (List ℕ)} (v, x) (w, y) = cc in subst (λ (p : A × Bor (List ℕ)). P p.0 p.1) q h

module _ {A : Type 0} (g : A → List ℕ) (Fits : A → Type 0) {t : List ℕ} where
  pub is_value : (v : A) (rest : Bor (List ℕ)) → Here g Fits t v rest.now → Finds g Fits t (Some (v, rest))
  is_value v rest h = record { value = λ w x e. same_found (λ y z. Here g Fits t y z.now) e h; bad = λ e. clash (cc) }

  pub is_bad : Nowhere g Fits t → Finds g Fits t None
  is_bad h = record { value = λ w x e. clash (cc); bad = λ e. h }

-- one value at most stands at the front of a text
pub here_once : {A : Type 0} (g : A → List ℕ) {Fits : A → Type 0} {t : List ℕ} {v w : A} {x y : List ℕ}
    → Once g → Here g Fits t v x → Here g Fits t w y → (v ≡ w) × (x ≡ y)
here_once g {v = v} {w = w} {x = x} {y = y} once a b = once v w x y a.stops b.stops (sym a.form ∙ b.form)

pub field_once : Once field
field_once = cell_once digits_of digits_once

-- ---- a byte b in front: what stands behind it tells what stands there

module _ {A : Type 0} (b : ℕ) (g : A → List ℕ) (Fits : A → Type 0) where
  abbrev fronted : A → List ℕ
  fronted v = b ∷ g v

  front-here : {t u : List ℕ} {v : A} {rest : List ℕ} → t ≡ b ∷ u → Here g Fits u v rest → Here fronted Fits t v rest
  front-here e h = record { fits = h.fits; form = e ∙ ap (λ (l : List ℕ). b ∷ l) h.form; stops = h.stops }

  front_nowhere : {t u : List ℕ} → t ≡ b ∷ u → Nowhere g Fits u → Nowhere fronted Fits t
  front_nowhere e none v rest h = none v rest (record { fits = h.fits; form = ap tail (sym e ∙ h.form); stops = h.stops })

  pub front_finds : {t u : List ℕ} {r : Option (A × Bor (List ℕ))} → t ≡ b ∷ u → Finds g Fits u r → Finds fronted Fits t r
  front_finds e h = record { value = λ v x q. front-here e (h.value v x q); bad = λ q. front_nowhere e (h.bad q) }
