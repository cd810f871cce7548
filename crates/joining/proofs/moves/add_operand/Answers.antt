-- `joining::moves::add_operand` meets its contract. Assumes nothing.
use mathlib.Core.Path.{refl}
use Prim.Native.Nat.{◌≤◌}
use native.Mathlib.Omega.{arith}
use Rattle.session.proofs.Tabling.{table_front}
use Rattle.joining.proofs.Moving.{stand_table, ranks-front, add_stands}
use Rattle.joining.proofs.moves.add_operand.Goals as goal

pub invariant_of-add_row : goal.invariant_of-add_row
invariant_of-add_row c = record { few = omega (arith, c.requires.operands_bound.1, c.requires.standing.fits.rank-few) }

pub add_row-requires : goal.add_row-requires
add_row-requires c =
    let few : c.args.numbers.operands ≤ 8 = let r = c.requires.operands_bound.0 in omega (arith, r) in
    let a = c.args in
    record { operands_bound = c.requires.operands_bound.0; table_value = table_front _ a.numbers.rank a.numbers.operands few a.table.now (stand_table a.numbers.rank a.numbers.operands a.sizes.now a.strides.now a.ranks.now a.table.now few c.requires.standing) }

pub put_row-requires : goal.put_row-requires
put_row-requires c =
    let few : c.args.numbers.operands ≤ 8 = let r = c.requires.operands_bound.0 in omega (arith, r) in
    let a = c.args in
    let r = c.requires.operands_bound.0 in record {
      out_value = ranks-front a.numbers.rank a.numbers.operands a.sizes.now a.strides.now a.ranks.now a.table.now few c.requires.standing;
      at_bound = omega (arith, r);
    }

pub returns : goal.returns
returns c =
    let few : c.args.numbers.operands ≤ 8 = let r = c.requires.operands_bound.0 in omega (arith, r) in
    let a = c.args in
    add_stands a.numbers.rank a.numbers.operands a.sizes.now a.strides.now a.ranks.now a.table.now few c.requires.standing c.requires.operands_bound.0 a.size a.joining.now c.requires.operands_bound.1
    refl c.put_strides.ensures c.add_row.ensures c.put_row.ensures
