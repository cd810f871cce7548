-- A total as 64 bits hold it, and the product that the loop makes of it with one more extent. Assumes nothing.
use Rattle.std.specs.Prelude.{cond, ℕ, ◌*◌, ◌^◌, ltb, eqb, Option, Some, None}

-- the number itself below 2^64, else only that it is above
unfoldable pub held : ℕ → Option ℕ
held n = cond (ltb n (2 ^ 64)) (Some n) None

-- a factor of 0 brings a product that was above back to 0
unfoldable pub times_of : Option ℕ → ℕ → Option ℕ
times_of (Some x) e = held (x * e)
times_of None e = cond (eqb e 0) (Some 0) None
