-- `fuse::Column::cost` meets its contract: each answer is one of the three costs, by the tests that led there. Assumes nothing.
use mathlib.Core.Path.{◌≡◌, sym, ap, ◌∙◌}
use mathlib.Core.Bool.{Bool, true, false, not}
use Rattle.std.specs.Prelude.{Some}
use Rattle.std.specs.Bool.{then_some}
use Prim.Native.Nat.{ℕ, ◌*◌, ◌-◌, ◌^◌, ◌<◌, min}
use native.Mathlib.Omega.{arith}
use Rattle.strided.specs.Base.{least}
use Rattle.strided.specs.Costs.{still, cost_of}
use Rattle.laws.specs.Cut.Ranges.{least_in}
use Rattle.laws.specs.Cut.Tables.{cost_none, cost_one, cost_twice, still-not}
use Rattle.fuse.specs.Sizes.{size_at}
use Rattle.fuse.proofs.Column.cost.Goals as goal

-- where the least size is not 0, operand 0 moves
twice : (size : ℕ → ℕ) (operands : ℕ) → 0 < operands → (least size 0 operands ≡ 0 → ⊥) → still size operands ≡ false
twice size operands h n = still-not size operands 0 h (λ e. n (omega (arith, least_in size 0 operands 0 (omega arith) (omega arith), e)))

-- where it is 0, the cost is 1, and there is none if nobody moves
once : (v : Bool) (size : ℕ → ℕ) (operands : ℕ) → v ≡ still size operands → least size 0 operands ≡ 0 → then_some (not v) 1 ≡ cost_of size operands
once true size operands e m = sym (cost_none size operands (sym e))
once false size operands e m = sym (cost_one size operands (sym e) m)

pub returns-then-size-eq0 : goal.returns-then-size-eq0
returns-then-size-eq0 c =
    let s = c.args.self in
    c.then_some.ensures ∙ once c.stays.result (size_at s.rows.strides.now s.rows.pitch s.axis) s.rows.operands c.stays.ensures (sym c.least_size-size.ensures ∙ c.if-size-eq0.true)

pub returns : goal.returns
returns c =
    let s = c.args.self in
    let m : ℕ = s.rows.operands in
    let f : ℕ → ℕ = size_at s.rows.strides.now s.rows.pitch s.axis in
    let n : least f 0 m ≡ 0 → ⊥ = λ e. c.if-size-eq0.false (c.least_size-size.ensures ∙ e) in
    let e : c.min.result ≡ min (2 * least f 0 m) (2 ^ 63 - 1) = omega (arith, c.least_size-size.ensures) in
    ap (λ x. Some x) e ∙ sym (cost_twice f m (twice f m s.some n) n)
