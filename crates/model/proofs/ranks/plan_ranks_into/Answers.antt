-- `model::ranks::plan_ranks_into` meets its contract. The invariant: the first k rows are the operands' ranks, the others 0. Assumes nothing.
use mathlib.Core.Path.{◌≡◌, sym, ◌∙◌, ap}
use mathlib.Core.Bool.{cond}
use mathlib.Core.List.{List, [], map}
use Prim.Native.Nat.{ℕ, ◌+◌, ◌*◌, ◌-◌, ◌<◌}
use native.Mathlib.Omega.{arith}
use lib.Dec.{eqb}
use lib.IntN.{ℤ}
use lib.ListN.{length, get_or, set, replicate, take, drop, length-take, length-drop}
use Rattle.strided.specs.Base.{padded, run}
use Rattle.strided.specs.Ranks.{ranks}
use Rattle.laws.specs.Base.Filling.{fill_none, fill_next, fill_here}
use Rattle.laws.specs.Plan.Ranks.{ranks-rows}
use Rattle.model.proofs.ranks.plan_ranks_into.Goals as goal
use Rattle.model.proofs.ranks.plan_ranks_into.Invariants.{row_of}

pub loop-k-init : goal.loop-k-init
loop-k-init c = c.requires ∙ fill_none 8 (replicate 64 0)

pub overflow_mul-start : goal.overflow_mul-start
overflow_mul-start c =
    -- the table has a row for operand k
    let small : c.loop-k.k < 8 = omega (arith, c.loop-k-test, c.args.axes.few) in
    omega (arith, small)

pub overflow_add-end : goal.overflow_add-end
overflow_add-end c =
    let small : c.loop-k.k < 8 = omega (arith, c.loop-k-test, c.args.axes.few) in
    omega (arith, small, c.args.axes.to)

pub offset_bounds-axes-k : goal.offset_bounds-axes-k
offset_bounds-axes-k c =
    let small : c.loop-k.k < 8 = omega (arith, c.loop-k-test, c.args.axes.few) in
    omega (arith, small)

pub bounds-axes-k : goal.bounds-axes-k
bounds-axes-k c = omega (arith, c.loop-k-test)

pub offset_bounds-strides-start : goal.offset_bounds-strides-start
offset_bounds-strides-start c =
    let small : c.loop-k.k < 8 = omega (arith, c.loop-k-test, c.args.axes.few) in
    omega (arith, small)

pub slice_bounds-row-end : goal.slice_bounds-row-end
slice_bounds-row-end c =
    let small : c.loop-k.k < 8 = omega (arith, c.loop-k-test, c.args.axes.few) in
    omega (arith, small, c.args.axes.to)

pub offset_bounds-table-k : goal.offset_bounds-table-k
offset_bounds-table-k c =
    let small : c.loop-k.k < 8 = omega (arith, c.loop-k-test, c.args.axes.few) in
    omega (arith, small)

pub bounds-table-k : goal.bounds-table-k
bounds-table-k c =
    let small : c.loop-k.k < 8 = omega (arith, c.loop-k-test, c.args.axes.few) in
    small

pub invariant_of-row : goal.invariant_of-row
invariant_of-row c = record { few = rw length-take (omega (arith, c.args.axes.to)) }

pub ranks_into-requires : goal.ranks_into-requires
ranks_into-requires c =
    let small : c.loop-k.k < 8 = omega (arith, c.loop-k-test, c.args.axes.few) in
    let k = c.loop-k.k in
    let row = row_of c.args.axes.sizes.now c.args.axes.strides.now c.args.axes.rank in
    ap (λ (t : List (List ℕ)). get_or t k []) c.loop-k.invariant ∙ fill_here 8 (replicate 64 0) [] row k small

pub loop-k-preserved : goal.loop-k-preserved
loop-k-preserved c =
    let small : c.loop-k.k < 8 = omega (arith, c.loop-k-test, c.args.axes.few) in
    let k = c.loop-k.k in
    let sizes = c.args.axes.sizes.now in
    let ss = c.args.axes.strides.now in
    let rank = c.args.axes.rank in
    let at = k * 64 in
    let e : at + rank - at ≡ rank = omega arith in
    let long : length (take rank (drop at ss)) ≡ rank = length-take rank (drop at ss) ∙ omega (arith, length-drop at ss, small, c.args.axes.all, c.args.axes.to) in
    let row = row_of sizes ss rank in
    let made : List ℤ → ℕ → List ℕ = λ part n. padded 64 0 (cond (eqb (get_or sizes k 0) 0) (replicate n 1) (ranks part)) in
    ap (set c.loop-k.table k) (c.ranks_into.ensures ∙ ap (λ (n : ℕ). made (take n (drop at ss)) (length (take n (drop at ss)))) e ∙ ap (made (take rank (drop at ss))) long)
    ∙ ap (λ (t : List (List ℕ)). set t k (row k)) c.loop-k.invariant
    ∙ fill_next 8 (replicate 64 0) row k small

pub returns : goal.returns
returns c =
    let sizes = c.args.axes.sizes.now in
    let ss = c.args.axes.strides.now in
    let e : c.loop-k.k ≡ length sizes = omega (arith, c.loop-k-test) in
    c.loop-k.invariant
    ∙ ap (λ (n : ℕ). padded 8 (replicate 64 0) (map (row_of sizes ss c.args.axes.rank) (run 0 n))) e
    ∙ sym (ranks-rows sizes ss c.args.axes.rank (replicate 64 0))
