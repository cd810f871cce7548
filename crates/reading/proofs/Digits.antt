-- Reading a number digit by digit. What stands at the front of a text is told from its first byte: each law says what is asked of the text
-- behind that byte, so a reader goes on there and loses nothing.
-- Assumes nothing.
use mathlib.Core.Path.{◌≡◌, refl, sym, ap, ◌∙◌}
use mathlib.Core.Bool.{true, false, true≢false}
use mathlib.Core.List.{List, [], ◌∷◌, ◌++◌}
use mathlib.Core.Logic.{◌↔◌, ◌⊎◌, inl, inr, ⊎_elim}
use Prim.Native.Nat.{ℕ, ◌+◌, ◌-◌, ◌*◌, ◌^◌, ◌≤◌, ◌<◌}
use native.Mathlib.Omega.{arith}
use lib.ListN.{length}
use Rattle.strided.specs.Digits.{digits_of}
use Rattle.strided.specs.Text.{FitU}
use Rattle.laws.specs.Base.Ranges.{below_or}
use Rattle.laws.specs.Text.Lengths.{digits_small}
use Rattle.laws.specs.Text.Numbers.{is_digit, goes_on, Digits, none, more, value_from, value_grows, digit_of, digits_cat, First, digits_first, digits_go, head, tail}
use Rattle.std.specs.Borrow.{Bor}
use Rattle.reading.specs.Bytes.{DigitHere}
use Rattle.reading.specs.Here.{Here}
use Rattle.reading.specs.Numbers.{Reads, More, ReadsMore}
use Rattle.reading.proofs.Answers.{clash, same_found, is_value, is_bad}
use Rattle.std.specs.Prelude.{Option, Some, None}

digit_low : (b : ℕ) → is_digit b ≡ true → 48 ≤ b
digit_low b d = let f = digit_of b d in omega arith

pub digit_one : {t : List ℕ} {d : ℕ} {rest : List ℕ} → DigitHere t d rest → d < 10
digit_one h = let f = digit_of h.byte h.is in let e = h.says in omega arith

pub digit_short : {t : List ℕ} {d : ℕ} {rest : List ℕ} → DigitHere t d rest → length rest < length t
digit_short h = let l = ap length h.form in omega arith

-- ---- behind digits that say a

-- the two answers of the reader
module _ {a : ℕ} {t : List ℕ} where
  pub more_value : (v : ℕ) (rest : Bor (List ℕ)) → More a t v rest.now → ReadsMore a t (Some (v, rest))
  more_value v rest h = record { value = λ w x e. same_found (λ y z. More a t y z.now) e h; bad = λ e. clash (cc) }

  pub more_bad : ((v : ℕ) (rest : List ℕ) → More a t v rest → ⊥) → ReadsMore a t None
  more_bad h = record { value = λ w x e. clash (cc); bad = λ e. h }

-- no digit follows: a is the number
pub more_none : (a : ℕ) (t : List ℕ) → a < 2 ^ 64 → goes_on t ≡ false → More a t a t
more_none a t h g = record { digits = []; are = none; form = refl; value = refl; fits = h; stops = g }

-- a digit follows: it is one of the digits
module _ (a b : ℕ) {t u : List ℕ} (e : t ≡ b ∷ u) (d : is_digit b ≡ true) (v : ℕ) (rest : List ℕ) where
  to : More a t v rest → More (a * 10 + (b - 48)) u v rest
  to m = go m.digits m.are (sym e ∙ m.form) m.value
    where
      go : (ds : List ℕ) → Digits ds → b ∷ u ≡ ds ++ rest → v ≡ value_from a ds → More (a * 10 + (b - 48)) u v rest
      go [] none f q = absurd (true≢false (sym d ∙ ap goes_on f ∙ m.stops))
      go (c ∷ ds) (more p ps) f q =
          let same : c ≡ b = sym (ap head f) in
          record { digits = ds; are = ps; form = ap tail f; value = q ∙ ap (λ (x : ℕ). value_from (a * 10 + (x - 48)) ds) same; fits = m.fits; stops = m.stops }

  from : More (a * 10 + (b - 48)) u v rest → More a t v rest
  from m =
      record {
        digits = b ∷ m.digits;
        are = more d m.are;
        form = e ∙ ap (λ (l : List ℕ). b ∷ l) m.form;
        value = m.value;
        fits = m.fits;
        stops = m.stops;
      }

  pub more_turn : More (a * 10 + (b - 48)) u v rest ↔ More a t v rest
  more_turn = (from, to)

-- digits that say too much already
pub more_over : (a : ℕ) {t : List ℕ} {v : ℕ} {rest : List ℕ} → 2 ^ 64 ≤ a → More a t v rest → ⊥
more_over a h m = let g = value_grows a m.digits in omega arith

-- the loop: behind the digits read so far, which say n, stands what stood behind those that say `first` at the start
module _ {first : ℕ} {t rest u : List ℕ} {n k : ℕ} (l : (v : ℕ) (x : List ℕ) → More n rest v x ↔ More first t v x) (d : DigitHere rest k u) where
  pub reading_turn : (v : ℕ) (x : List ℕ) → More (n * 10 + k) u v x ↔ More first t v x
  reading_turn v x =
      let m = more_turn n d.byte d.form d.is v x in
      rw d.says ((λ y. (l v x).0 (m.0 y)), (λ y. m.1 ((l v x).1 y)))

  -- with this digit they say too much
  pub reading_over : 2 ^ 64 ≤ n * 10 + k → ReadsMore first t None
  reading_over h = more_bad (λ v x m. more_over _ h ((reading_turn v x).1 m))

-- ---- a number from its first byte

number_none : (t : List ℕ) → goes_on t ≡ false → (v : ℕ) (rest : List ℕ) → Here digits_of FitU t v rest → ⊥
number_none t g v rest h = true≢false (sym (digits_go v rest) ∙ sym (ap goes_on h.form) ∙ g)

-- how the text of a number v begins: with `0` and no more, or with the first digit of v
begins : {t u : List ℕ} {b v : ℕ} {rest : List ℕ} → t ≡ b ∷ u → Here digits_of FitU t v rest
    → ((b ≡ 48) × (u ≡ rest)) ⊎ ((f : First v) × (b ≡ 48 + f.digit) × (u ≡ f.rest ++ rest))
begins {u = u} {b = b} {v = v} {rest = rest} e h =
    ⊎_elim
    (λ zero.
    let q : b ∷ u ≡ (48 + v) ∷ rest = sym e ∙ h.form ∙ ap (λ (l : List ℕ). l ++ rest) (digits_small v (omega arith)) in
    let x : b ≡ 48 + v = ap head q in
    inl (omega arith, ap tail q))
    (λ above.
    let f = digits_first v above in
    let q : b ∷ u ≡ (48 + f.digit) ∷ (f.rest ++ rest) = sym e ∙ h.form ∙ ap (λ (l : List ℕ). l ++ rest) f.form in
    inr (f, ap head q, ap tail q))
    (below_or v 1)

-- one digit and no more
digit_alone : (b : ℕ) {t u : List ℕ} → t ≡ b ∷ u → is_digit b ≡ true → goes_on u ≡ false → Here digits_of FitU t (b - 48) u
digit_alone b {t} {u} e d g =
    let f = digit_of b d in
    let one : digits_of (b - 48) ≡ b ∷ [] = digits_small (b - 48) f.0 ∙ ap (λ (x : ℕ). x ∷ []) f.1 in
    let small : b - 48 < 10 = f.0 in
    record { fits = omega arith; form = e ∙ ap (λ (l : List ℕ). l ++ u) (sym one); stops = g }

-- `0` stands alone
zero_more : {t u : List ℕ} → t ≡ 48 ∷ u → goes_on u ≡ true → (v : ℕ) (rest : List ℕ) → Here digits_of FitU t v rest → ⊥
zero_more e g v rest h =
    ⊎_elim (λ z. true≢false (sym g ∙ ap goes_on z.1 ∙ h.stops)) (λ f. omega arith) (begins e h)

-- another digit, and what more there is
module _ (b : ℕ) {t u : List ℕ} (e : t ≡ b ∷ u) (above : 48 < b) (v : ℕ) (rest : List ℕ) where
  first-here : is_digit b ≡ true → More (b - 48) u v rest → Here digits_of FitU t v rest
  first-here d m =
      let f = digit_of b d in
      let one : digits_of (b - 48) ≡ b ∷ [] = digits_small (b - 48) f.0 ∙ ap (λ (x : ℕ). x ∷ []) f.1 in
      let all : digits_of v ≡ b ∷ m.digits =
      ap digits_of m.value ∙ digits_cat (b - 48) (omega arith) m.are ∙ ap (λ (l : List ℕ). l ++ m.digits) one in
      record {
        fits = m.fits;
        form = e ∙ ap (λ (l : List ℕ). b ∷ l) m.form ∙ ap (λ (l : List ℕ). l ++ rest) (sym all);
        stops = m.stops;
      }

  first_more : Here digits_of FitU t v rest → More (b - 48) u v rest
  first_more h =
      ⊎_elim
      (λ z. absurd (omega arith))
      (λ w.
      let f = w.0 in
      let y : f.digit ≡ b - 48 = omega arith in
      record {
        digits = f.rest;
        are = f.digits;
        form = w.2;
        value = sym f.value ∙ ap (λ (n : ℕ). value_from n f.rest) y;
        fits = h.fits;
        stops = h.stops;
      })
      (begins e h)

-- ---- the reader of a number, by its first digit

pub digit_small : {t : List ℕ} {d : ℕ} {rest : List ℕ} → DigitHere t d rest → d < 10
digit_small h = let f = digit_of h.byte h.is in let says = h.says in let small : h.byte - 48 < 10 = f.0 in omega arith

-- the digit that goes on behind n
pub more_digit : {t u : List ℕ} {n k : ℕ} {r : Option (ℕ × Bor (List ℕ))} → DigitHere t k u → ReadsMore (n * 10 + k) u r → ReadsMore n t r
more_digit {t} {n = n} d m =
    let turn = reading_turn {first = n} {t = t} (λ v x. ((λ y. y), (λ y. y))) d in
    record { value = λ v rest q. (turn v rest.now).0 (m.value v rest q); bad = λ q v rest g. m.bad q v rest ((turn v rest).1 g) }

pub digit_goes : {t : List ℕ} {d : ℕ} {rest : List ℕ} → DigitHere t d rest → goes_on t ≡ true
digit_goes h = ap goes_on h.form ∙ h.is

module _ {t u : List ℕ} {k : ℕ} (d : DigitHere t k u) where
  pub first_reads : {r : Option (ℕ × Bor (List ℕ))} → 0 < k → ReadsMore k u r → Reads digits_of t r
  first_reads h m =
      let above : 48 < d.byte = let says = d.says in omega arith in
      let n = rw d.says at m in
      record {
        value = λ v rest q. first-here d.byte d.form above v rest.now d.is (n.value v rest q);
        bad = λ q v rest g. n.bad q v rest (first_more d.byte d.form above v rest g);
      }

  pub zero_bad : k ≡ 0 → goes_on u ≡ true → Reads digits_of t None
  zero_bad h g =
      let low = digit_low d.byte d.is in
      let says = d.says in
      let e : d.byte ≡ 48 = omega arith in
      is_bad digits_of FitU (zero_more (d.form ∙ ap (λ (x : ℕ). x ∷ u) e) g)

pub one_reads : {t : List ℕ} {k : ℕ} (rest : Bor (List ℕ)) → DigitHere t k rest.now → goes_on rest.now ≡ false → Reads digits_of t (Some (k, rest))
one_reads rest d g = rw d.says (is_value digits_of FitU (d.byte - 48) rest (digit_alone d.byte d.form d.is g))

pub none_bad : (t : List ℕ) → goes_on t ≡ false → Reads digits_of t None
none_bad t g = is_bad digits_of FitU (number_none t g)
