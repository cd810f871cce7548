-- `fuse::all_join` meets its contract. Assumes nothing.
use mathlib.Core.Path.{◌∙◌}
use mathlib.Core.Bool.{Bool}
use Prim.Native.Nat.{ℕ, ◌+◌, ◌*◌, ◌≤◌, ◌<◌}
use native.Mathlib.Nat.{mul-le-mul_right}
use native.Mathlib.Omega.{arith}
use lib.IntN.{pos}
use lib.ListN.{length, get_or}
use Rattle.std.proofs.Common.{rules}
use Rattle.std.proofs.iter.Serving.{serving}
use Rattle.std.proofs.lemmas.Iterator.Search.{all_from_yields_List}
use Rattle.strided.specs.Fuse.{joins}
use Rattle.fuse.proofs.Joining.{yields_downwards, all_joined}
use Rattle.fuse.proofs.all_join.Goals as goal

-- the row of an operand lies within the strides
row_within : (p m n : ℕ) → m * p ≤ n → (k : ℕ) → k < m → k * p + p ≤ n
row_within p m n r k h = let rows : (k + 1) * p ≤ m * p = mul-le-mul_right p (omega arith) in omega (arith, rows)

pub all-requires-clause-callable : goal.all-requires-clause-callable
all-requires-clause-callable c =
    let r = c.args.rows in
    let within : (k : ℕ) → k < r.operands → k * r.pitch + r.pitch ≤ length r.strides.now = row_within r.pitch r.operands (length r.strides.now) r.all in
    grind (serving, within)

pub returns : goal.returns
returns c =
    let a = c.args in
    let r = a.rows in
    let test : ℕ → Bool = λ k. joins a.e (get_or r.strides.now (k * r.pitch + a.h) (pos 0)) (get_or r.strides.now (k * r.pitch + a.i) (pos 0)) in
    all_from_yields_List test _ _ _ c.all.ensures.ran (yields_downwards r.operands c.rev.ensures.source) (λ x b q k. search rules)
    ∙ all_joined a.e r.pitch a.i a.h r.operands r.strides.now
