-- `joining::layouts::ranks_into` meets its contract. Assumes nothing.
use mathlib.Core.Path.{refl}
use native.Mathlib.Omega.{arith}
use lib.ListN.{get_or}
use mathlib.Core.List.{[]}
use Rattle.joining.proofs.Laying.{rows-front, rows_next}
use Rattle.joining.proofs.layouts.ranks_into.Goals as goal

pub put_row-requires : goal.put_row-requires
put_row-requires c =
    let l = c.loop-k in
    let t = c.loop-k-test.true in
    let few = l.invariant.0 in record { out_value = rows-front 512 0 64 8 (λ k. get_or c.args.table.now k []) (λ j h. (c.requires.even.rows j h).long) l.k (omega (arith, few, t)) (omega (arith, few, t)) l.out l.invariant.2; at_bound = omega (arith, few, t) }

pub loop-k-preserved : goal.loop-k-preserved
loop-k-preserved c =
    let l = c.loop-k in
    let t = c.loop-k-test.true in
    let few = l.invariant.0 in
    (few, omega arith, rows_next 512 0 64 8 (λ k. get_or c.args.table.now k []) (λ j h. (c.requires.even.rows j h).long) l.k (omega (arith, few, t)) (omega (arith, few, t)) l.out l.invariant.2 refl c.put_row.ensures)
