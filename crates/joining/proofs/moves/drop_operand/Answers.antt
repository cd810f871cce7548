-- `joining::moves::drop_operand` meets its contract. Assumes nothing.
use Rattle.std.proofs.Common.{◌≡◌, ℕ, ◌*◌, take, sym, ap₂, ◌∙◌, arith}
use Rattle.strided.specs.Base.{padded}
use Rattle.session.proofs.Tabling.{zero_row, table_front}
use Rattle.joining.proofs.Moving.{stand_table, ranks-front, drop_stands}
use Rattle.joining.proofs.moves.drop_operand.Goals as goal

pub drop_row-requires-clause-out_value : goal.drop_row-requires-clause-out_value
drop_row-requires-clause-out_value c =
    let a = c.args in
    let m = a.numbers.operands in
    let one : m ≡ 1 * m = omega arith in
    let few = c.requires.k_lt_operands.1 in
    table_front _ a.numbers.rank m few a.table.now (stand_table a.numbers.rank m a.sizes.now a.strides.now a.ranks.now a.table.now few c.requires.standing)
    ∙ ap₂ (λ (n i : ℕ). padded n zero_row (take i a.table.now)) (sym c.told-table) one

pub drop_row-requires-2-clause-out_value : goal.drop_row-requires-2-clause-out_value
drop_row-requires-2-clause-out_value c =
    let a = c.args in
    let turned : a.numbers.operands * 64 ≡ 64 * a.numbers.operands = omega arith in
    ranks-front a.numbers.rank a.numbers.operands a.sizes.now a.strides.now a.ranks.now a.table.now c.requires.k_lt_operands.1 c.requires.standing
    ∙ ap₂ (λ (n i : ℕ). padded n 0 (take i a.ranks.now)) (sym c.told-ranks) turned

pub returns : goal.returns
returns c =
    let a = c.args in
    drop_stands a.numbers.rank a.numbers.operands a.sizes.now a.strides.now a.ranks.now a.table.now c.requires.k_lt_operands.1 c.requires.standing a.k c.requires.k_lt_operands.0
    c.drop_row.ensures c.drop_row-2.ensures c.drop_row-3.ensures c.drop_row-4.ensures
