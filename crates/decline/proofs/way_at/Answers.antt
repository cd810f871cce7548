-- `decline::way_at` meets its contract: the product is the definition's, and it fits since the caller knows a bound. Assumes nothing.
use native.Mathlib.Omega.{arith}
use mathlib.Core.Path.{◌≡◌, ap₂}
use Prim.Native.Nat.{ℕ, ◌*◌}
use Rattle.laws.specs.Cut.Rising.{way_of}
use Rattle.laws.specs.Cut.Tables.{stride_size}
use Rattle.decline.proofs.way_at.Goals as goal

pub overflow_mul-result : goal.overflow_mul-result
overflow_mul-result c =
    -- the product is what the axis spans
    let the-way : let a = c.args in c.saturating_sub.result * c.stride_size.result ≡ way_of (stride_size a.operand.axes.strides.now a.operand.k) a.operand.axes.extents.now a.i = ap₂ (λ (x y : ℕ). x * y) c.saturating_sub.ensures c.stride_size.ensures in
    omega (arith, the-way, c.requires.1)

pub returns : goal.returns
returns c =
    let the-way : let a = c.args in c.saturating_sub.result * c.stride_size.result ≡ way_of (stride_size a.operand.axes.strides.now a.operand.k) a.operand.axes.extents.now a.i = ap₂ (λ (x y : ℕ). x * y) c.saturating_sub.ensures c.stride_size.ensures in
    the-way
