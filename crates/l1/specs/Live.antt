-- What an L1Sets holds of the byte strides, and the fit's definitions by it. Assumes nothing.
use Rattle.std.specs.Prelude.{◌≡◌, Bool, cond, ◌&&◌, ◌||◌, List, ℕ, ◌+◌, ◌*◌, ◌/◌, ◌%◌, ◌^◌, ◌<◌, ltb, leb, eqb, ℤ, pos, nat_abs, get_or, set}
use mir.Val.{bool_byte}
use Rattle.strided.specs.Base.{product, greatest}
use Rattle.strided.specs.Region.{byte_at}
use Rattle.strided.specs.Fit.{reuse, aliases}
use Rattle.strided.specs.declared.Machine.{Machine}
use Rattle.l1.specs.declared.live.LiveAxes.{LiveAxes}
use Rattle.l1.specs.declared.L1Sets.{L1Sets}

-- more than any allowed number of live lines: loads from here on are not told apart
abbrev pub top : ℕ
top = 17

-- a set of axes is a number, axis i its bit i. It holds those of the first n axes at which t holds
abbrev pub within : ℕ → ℕ → Bool
within axes i = eqb (axes / 2 ^ i % 2) 1

pub record Holds (t : ℕ → Bool) (n axes : ℕ) : Type 0 where
  pub below : axes < 2 ^ n
  pub each : (i : ℕ) → within axes i ≡ ltb i n && t i

-- whether axis i brings lines of operand k into one set
abbrev pub aliases_at : Machine → List ℕ → ℕ → ℕ → Bool
aliases_at mc bytes k i = aliases mc (byte_at bytes k i)

-- the number of axes before operand k's reuse axis, by its size; 0 where it does not count
unfoldable pub live_count : Machine → List ℕ → ℕ → ℕ → ℕ → ℕ
live_count mc bytes size rank k = cond (eqb size 0) 0 (cond (ltb (reuse mc bytes rank k) rank) (reuse mc bytes rank k) 0)

-- l is of operand k, s of operands 0 and 1
pub record Live (mc : Machine) (bytes : List ℕ) (size rank k : ℕ) (l : LiveAxes) : Type 0 where
  pub count : l.count ≡ live_count mc bytes size rank k
  pub aliased : Holds (aliases_at mc bytes k) l.count l.aliased

pub record Of (mc : Machine) (bytes sizes : List ℕ) (rank : ℕ) (s : L1Sets) : Type 0 where
  pub first : Live mc bytes (get_or sizes 0 0) rank 0 s.first
  pub second : Live mc bytes (get_or sizes 1 0) rank 1 s.second

-- the size of operand c's stride on axis i
abbrev pub chosen_size : List ℤ → ℕ → ℕ → ℕ
chosen_size strides c i = nat_abs (get_or strides (c * 64 + i) (pos 0))

-- what an operand contributes along its first n axes, the load, the axes that enter a product, and the greatest block up to a whole one
abbrev pub factor_by : LiveAxes → List ℕ → ℕ → ℕ
factor_by l b i = cond (within l.aliased i) (get_or b i 0) 1

abbrev pub product_by : LiveAxes → List ℕ → ℕ → ℕ
product_by l b n = bool_byte (ltb 0 l.count) * product (factor_by l b) 0 n

abbrev pub load_by : L1Sets → List ℕ → ℕ
load_by s b = product_by s.first b s.first.count + product_by s.second b s.second.count

abbrev pub enters_by : L1Sets → ℕ → Bool
enters_by s i = within s.first.aliased i || within s.second.aliased i

unfoldable pub most_by : ℕ → L1Sets → List ℕ → ℕ → ℕ → ℕ
most_by live s b i whole = greatest (λ x. leb (load_by s (set b i x)) live) whole
