-- Numbers in decimal: the digits of a number and what digits say undo each other, and a number with no digit behind it is told from its text
-- in one way alone. These are the laws that a reader needs.
-- Assumes nothing.
use Rattle.std.specs.Prelude.{◌≡◌, refl, Bool, true, false, cond, List, [], ◌∷◌, ◌++◌, ℕ, zero, suc, ◌+◌, ◌-◌, ◌*◌, ◌/◌, ◌%◌, ◌≤◌, ◌<◌, leb, ℤ, pos, negsuc}
use Rattle.std.proofs.Common.{sym, ap, ◌∙◌, ⊎_elim, true≢false, append_assoc, append-nil, le_refl, not-suc-le-zero, arith, le-leb, leb-true}
use Rattle.std.proofs.lemmas.Bool.{false≢true}
use Rattle.strided.specs.Digits.{digits_of, signed_of}
use Rattle.laws.specs.Base.Ranges.{below_or}
use Rattle.laws.specs.Text.Lengths.{digits_small, digits_big}

-- ---- digit by digit

-- one digit more behind
pub digits_more : (n d : ℕ) → 0 < n → d < 10 → digits_of (n * 10 + d) ≡ digits_of n ++ ((48 + d) ∷ [])
digits_more n d h g =
    let q : (n * 10 + d) / 10 ≡ n = omega arith in
    let r : (n * 10 + d) % 10 ≡ d = omega arith in
    digits_big (n * 10 + d) (omega arith) ∙ rw (q, r)

-- induction by a digit
ind_in {ℓ} : (P : ℕ → Type ℓ) → ((n : ℕ) → n < 10 → P n) → ((n : ℕ) → 10 ≤ n → P (n / 10) → P n) → (k n : ℕ) → n < k → P n
ind_in P small big zero n h = absurd (not-suc-le-zero h)
ind_in P small big (suc k) n h =
    ⊎_elim (λ g. small n g) (λ g. big n g (ind_in P small big k (n / 10) (omega arith))) (below_or n 10)

pub digit_ind {ℓ} : (P : ℕ → Type ℓ) → ((n : ℕ) → n < 10 → P n) → ((n : ℕ) → 10 ≤ n → P (n / 10) → P n) → (n : ℕ) → P n
digit_ind P small big n = ind_in P small big (suc n) n (le_refl (suc n))

-- ---- digits, and what they say

-- the test for a digit
abbrev pub is_digit : ℕ → Bool
is_digit b = cond (leb 48 b) (leb b 57) false

-- whether a text goes on with a digit
abbrev pub goes_on : List ℕ → Bool
goes_on [] = false
goes_on (b ∷ t) = is_digit b

pub data Digits : List ℕ → Type 0 where
  none : Digits []
  more : {b : ℕ} {t : List ℕ} → is_digit b ≡ true → Digits t → Digits (b ∷ t)

-- the number that digits say, behind digits that say a
abbrev pub value_from : ℕ → List ℕ → ℕ
value_from a [] = a
value_from a (b ∷ t) = value_from (a * 10 + (b - 48)) t

digit_is : (d : ℕ) → d < 10 → is_digit (48 + d) ≡ true
digit_is d h = simp (le-leb 48 (48 + d) (omega arith), le-leb (48 + d) 57 (omega arith))

pub digit_of : (b : ℕ) → is_digit b ≡ true → (b - 48 < 10) × (48 + (b - 48) ≡ b)
digit_of b e = go (leb 48 b) refl (leb b 57) refl e
  where
    go : (x : Bool) → leb 48 b ≡ x → (y : Bool) → leb b 57 ≡ y → cond x y false ≡ true → (b - 48 < 10) × (48 + (b - 48) ≡ b)
    go true e1 true e2 h = let p = leb-true 48 b e1 in let q = leb-true b 57 e2 in (omega arith, omega arith)
    go true e1 false e2 h = absurd (false≢true h)
    go false e1 y e2 h = absurd (false≢true h)

-- what more digits say is no less
pub value_grows : (a : ℕ) (t : List ℕ) → a ≤ value_from a t
value_grows a [] = le_refl a
value_grows a (b ∷ t) = let ih = value_grows (a * 10 + (b - 48)) t in omega arith

value-append : (a : ℕ) (s t : List ℕ) → value_from a (s ++ t) ≡ value_from (value_from a s) t
value-append a [] t = refl
value-append a (b ∷ s) t = value-append (a * 10 + (b - 48)) s t

-- the digits of n say n
pub value_digits : (n : ℕ) → value_from 0 (digits_of n) ≡ n
value_digits =
    digit_ind (λ n. value_from 0 (digits_of n) ≡ n)
    (λ n h. rw (digits_small n h) (omega arith))
    (λ n h ih. rw (digits_big n h, value-append 0 (digits_of (n / 10)) _, ih) (omega arith))

pub digits_injective : (a b : ℕ) → digits_of a ≡ digits_of b → a ≡ b
digits_injective a b e = sym (value_digits a) ∙ ap (value_from 0) e ∙ value_digits b

digits_append : {s t : List ℕ} → Digits s → Digits t → Digits (s ++ t)
digits_append none q = q
digits_append (more h p) q = more h (digits_append p q)

pub digits_are : (n : ℕ) → Digits (digits_of n)
digits_are =
    digit_ind (λ n. Digits (digits_of n))
    (λ n h. rw (digits_small n h) (more (digit_is n h) none))
    (λ n h ih. rw (digits_big n h) (digits_append ih (more (digit_is (n % 10) (omega arith)) none)))

tail_digits : {b : ℕ} {t : List ℕ} → Digits (b ∷ t) → Digits t
tail_digits (more q r) = r

-- digits behind those of a number above 0 are the digits of what they all say
pub digits_cat : {t : List ℕ} (a : ℕ) → 0 < a → Digits t → digits_of (value_from a t) ≡ digits_of a ++ t
digits_cat a h none = sym (append-nil (digits_of a))
digits_cat {t} a h (more {b} {t = u} q r) =
    let f = digit_of b q in
    digits_cat (a * 10 + (b - 48)) (omega arith) r
    ∙ ap (λ (l : List ℕ). l ++ u) (digits_more a (b - 48) h f.0 ∙ ap (λ (c : ℕ). digits_of a ++ (c ∷ [])) f.1)
    ∙ append_assoc (digits_of a) (b ∷ []) u

-- the digits of a number above 0: a first digit d that is not 0, and more behind it
pub record First (n : ℕ) : Type 0 where
  pub digit : ℕ
  pub rest : List ℕ
  pub above : 0 < digit
  pub below : digit < 10
  pub form : digits_of n ≡ (48 + digit) ∷ rest
  pub digits : Digits rest
  pub value : value_from digit rest ≡ n

pub digits_first : (n : ℕ) → 0 < n → First n
digits_first n h =
    let f = firsts n h in
    let back : 0 * 10 + (48 + f.0 - 48) ≡ f.0 = omega arith in
    record {
      digit = f.0;
      rest = f.1;
      above = f.2;
      below = f.3;
      form = f.4;
      digits = tail_digits (rw f.4 at (digits_are n));
      value = ap (λ (a : ℕ). value_from a f.1) (sym back) ∙ sym (ap (value_from 0) f.4) ∙ value_digits n;
    }
  where
    firsts : (n : ℕ) → 0 < n → (d : ℕ) × (t : List ℕ) × (0 < d) × (d < 10) × (digits_of n ≡ (48 + d) ∷ t)
    firsts =
        digit_ind (λ n. 0 < n → (d : ℕ) × (t : List ℕ) × (0 < d) × (d < 10) × (digits_of n ≡ (48 + d) ∷ t))
        (λ n h p. (n, [], p, h, digits_small n h))
        (λ n h ih p.
        let f = ih (omega arith) in
        (f.0, f.1 ++ ((48 + n % 10) ∷ []), f.2, f.3, digits_big n h ∙ ap (λ (l : List ℕ). l ++ ((48 + n % 10) ∷ [])) f.4))

-- ---- the first byte of a text, or 0, and what is behind it

abbrev pub head : List ℕ → ℕ
head [] = 0
head (b ∷ t) = b

abbrev pub tail : List ℕ → List ℕ
tail [] = []
tail (b ∷ t) = t

-- a number begins with a digit, so never with `-`
pub digits_go : (n : ℕ) (t : List ℕ) → goes_on (digits_of n ++ t) ≡ true
digits_go =
    digit_ind (λ n. (t : List ℕ) → goes_on (digits_of n ++ t) ≡ true)
    (λ n h t. rw (digits_small n h) (digit_is n h))
    (λ n h ih t. rw (digits_big n h, append_assoc (digits_of (n / 10)) ((48 + n % 10) ∷ []) t) (ih ((48 + n % 10) ∷ t)))

pub digits_no_sign : (n : ℕ) (x y : List ℕ) → digits_of n ++ x ≡ 45 ∷ y → ⊥
digits_no_sign n x y e = true≢false (sym (digits_go n x) ∙ ap goes_on e)

-- ---- a number is told from its text in one way alone

-- digits with no digit behind them: where they end is told from the text
parts_once : {u w : List ℕ} (x y : List ℕ) → Digits u → Digits w → goes_on x ≡ false → goes_on y ≡ false → u ++ x ≡ w ++ y → (u ≡ w) × (x ≡ y)
parts_once x y none none g h e = (refl, e)
parts_once x y none (more q r) g h e = absurd (true≢false (sym q ∙ sym (ap goes_on e) ∙ g))
parts_once x y (more q r) none g h e = absurd (true≢false (sym q ∙ ap goes_on e ∙ h))
parts_once x y (more {b} {t = u} q r) (more {b = c} {t = w} p s) g h e =
    let f = parts_once x y r s g h (ap tail e) in
    let z : b ≡ c = ap head e in
    (ap (λ (k : ℕ). k ∷ u) z ∙ ap (λ (l : List ℕ). c ∷ l) f.0, f.1)

pub digits_once : (a b : ℕ) (x y : List ℕ) → goes_on x ≡ false → goes_on y ≡ false → digits_of a ++ x ≡ digits_of b ++ y → (a ≡ b) × (x ≡ y)
digits_once a b x y g h e =
    let f = parts_once x y (digits_are a) (digits_are b) g h e in
    (digits_injective a b f.0, f.1)

pub signed_once : (a b : ℤ) (x y : List ℕ) → goes_on x ≡ false → goes_on y ≡ false → signed_of a ++ x ≡ signed_of b ++ y → (a ≡ b) × (x ≡ y)
signed_once (pos a) (pos b) x y g h e = let f = digits_once a b x y g h e in (ap pos f.0, f.1)
signed_once (pos a) (negsuc k) x y g h e = absurd (digits_no_sign a x (digits_of (suc k) ++ y) e)
signed_once (negsuc j) (pos b) x y g h e = absurd (digits_no_sign b y (digits_of (suc j) ++ x) (sym e))
signed_once (negsuc j) (negsuc k) x y g h e =
    let f = digits_once (suc j) (suc k) x y g h (ap tail e) in
    let q : suc j ≡ suc k = f.0 in
    (ap negsuc (omega arith), f.1)
