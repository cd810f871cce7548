-- Lists, sums, choices, and arrays with a count: the words that all definitions use. Nothing here is about layouts.
-- Assumes nothing.
use Rattle.std.specs.Prelude.{Bool, true, false, cond, List, [], ◌∷◌, ◌++◌, ℕ, zero, suc, ◌+◌, ◌*◌, min, Option, None, Some}

module _ {A : Type 0} where
  -- "array places behind the counts are 0": n places that hold xs and then z
  abbrev pub padded : ℕ → A → List A → List A
  padded zero z xs = []
  padded (suc n) z [] = z ∷ padded n z []
  padded (suc n) z (x ∷ xs) = x ∷ padded n z xs

  -- element n, if the list has so many
  abbrev pub nth : List A → ℕ → Option A
  nth [] n = None
  nth (x ∷ xs) zero = Some x
  nth (x ∷ xs) (suc n) = nth xs n

  -- a at the front, unless the test holds
  abbrev pub unless : Bool → A → List A → List A
  unless b a l = cond b l (a ∷ l)

  -- the first of two that is there
  abbrev pub first : Option A → Option A → Option A
  first None b = b
  first (Some a) b = Some a

  -- one step of a machine that may have ended, and n steps of it
  abbrev pub and_then : (A → Option A) → Option A → Option A
  and_then f None = None
  and_then f (Some x) = f x

  abbrev pub after : (A → Option A) → ℕ → Option A → Option A
  after f zero m = m
  after f (suc n) m = after f n (and_then f m)

  -- a rule done again and again until it answers none. The count is never met where it is used (crate laws)
  abbrev pub onward : (A → A) → A → Option A → A
  onward go a None = a
  onward go a (Some b) = go b

  unfoldable pub until : (A → Option A) → ℕ → A → A
  until next zero a = a
  until next (suc f) a = onward (until next f) a (next a)

module _ {A B : Type 0} where
  -- the lists that f makes of each element, joined in order: a loop over xs
  abbrev pub over : List A → (A → List B) → List B
  over [] f = []
  over (x ∷ xs) f = f x ++ over xs f

  -- h of what is there, else z
  abbrev pub or_else : Option B → (A → B) → Option A → Option B
  or_else z h None = z
  or_else z h (Some x) = Some (h x)

-- s, s + 1, .., n numbers in all
abbrev pub run : ℕ → ℕ → List ℕ
run s zero = []
run s (suc n) = s ∷ run (suc s) n

-- f o + f (o + 1) + .., n terms
unfoldable pub sum : (ℕ → ℕ) → ℕ → ℕ → ℕ
sum f o zero = 0
sum f o (suc n) = sum f o n + f (o + n)

-- f o × f (o + 1) × .., n factors
unfoldable pub product : (ℕ → ℕ) → ℕ → ℕ → ℕ
product f o zero = 1
product f o (suc n) = product f o n * f (o + n)

-- the least of f o, f (o + 1), .., n of them; of none it is 0
unfoldable pub least : (ℕ → ℕ) → ℕ → ℕ → ℕ
least f o zero = 0
least f o (suc zero) = f o
least f o (suc (suc n)) = min (least f o (suc n)) (f (o + suc n))

-- the test holds at each of o, o + 1, .., n of them; at one of them
unfoldable pub every : (ℕ → Bool) → ℕ → ℕ → Bool
every t o zero = true
every t o (suc n) = cond (t (o + n)) (every t o n) false

unfoldable pub some_of : (ℕ → Bool) → ℕ → ℕ → Bool
some_of t o zero = false
some_of t o (suc n) = cond (t (o + n)) true (some_of t o n)

-- the first of i, i + 1, .., n of them, at which the test holds; i + n where there is none
unfoldable pub seek : (ℕ → Bool) → ℕ → ℕ → ℕ
seek t i zero = i
seek t i (suc n) = cond (t i) i (seek t (suc i) n)

-- the greatest number up to n at which the test holds; 0 where there is none
unfoldable pub greatest : (ℕ → Bool) → ℕ → ℕ
greatest t zero = 0
greatest t (suc n) = let less = greatest t n in cond (t (suc n)) (suc n) less
