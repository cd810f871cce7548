-- `export::copy_planned` meets its contract: each way out is a law of proofs/Ways. Assumes nothing.
use Rattle.std.specs.Prelude.{◌≡◌, ◌<◌, ◌^◌, length}
use Rattle.std.proofs.Common.{refl, arith}
use Rattle.std.proofs.lemmas.Result.{err_from_is_err_and}
use Rattle.laws.specs.Refusals.Record.{planning_allowed}
use Rattle.kernel.proofs.Plans.{made_whole}
use Rattle.export.proofs.Tests.{served_accepted, passed_width, passed_none}
use Rattle.export.proofs.Ways.{no_starts, offsets_leave, cells_refuse, walk_copyable, walk-begun, all_done}
use Rattle.export.proofs.copy_planned.Goals as goal

pub returns-then-asked : goal.returns-then-asked
returns-then-asked c = no_starts _ _ _ _ _ _ _ c.args.asked.served c.if-asked.true

pub plan_into-rank-requires : goal.plan_into-rank-requires
plan_into-rank-requires c =
    let a = c.args.asked in
    record { operands = a.operands; allowed = planning_allowed a.machine a.layout.extents.now a.sizes.now a.layout.strides.now _ a.served; accepted = served_accepted _ _ _ _ _ a.served; zeros = record { extents = refl; strides = refl } }

pub invariant_of-plan : goal.invariant_of-plan
invariant_of-plan c =
    let a = c.args.asked in made_whole a.machine a.layout.extents.now a.sizes.now a.layout.strides.now _ a.served c.plan_into-rank.ensures

pub returns-in_err-walk : goal.returns-in_err-walk
returns-in_err-walk c =
    -- there is a start for each operand
    let many : length c.args.asked.starts.now ≡ length c.args.asked.sizes.now = c.if-asked.false in
    let p = err_from_is_err_and c.from_residual.result c.from_residual.ensures.1 in
    rw (p.1, p.2) (offsets_leave _ _ _ _ _ _ _ c.args.asked.served many _ _ _ _ c.plan_into-rank.ensures _ c.begin_on.ensures _ c.in_err-walk.was)

pub returns-in_err-width : goal.returns-in_err-width
returns-in_err-width c =
    let many : length c.args.asked.starts.now ≡ length c.args.asked.sizes.now = c.if-asked.false in
    let p = err_from_is_err_and c.from_residual-in_err-width.result c.from_residual-in_err-width.ensures.1 in
    rw (p.1, p.2)
    (cells_refuse _ _ _ _ _ _ _ c.args.asked.served many _ _ _ _ c.plan_into-rank.ensures _ c.begin_on.ensures _ c.in_ok-walk.was (passed_none _ c.args.asked.sizes.now c.check_cells.ensures c.in_err-width.was))

pub copy_blocks-requires : goal.copy_blocks-requires
copy_blocks-requires c =
    let many : length c.args.asked.starts.now ≡ length c.args.asked.sizes.now = c.if-asked.false in
    -- no slice is longer than 2^63 - 1 bytes
    let short : length c.args.destination.now < 2 ^ 63 = omega arith in
    let a = c.args.asked in
    let e = passed_width _ a.sizes.now c.check_cells.ensures c.in_ok-width.was in
    record {
      copyable = walk_copyable a.machine a.layout.extents.now a.sizes.now a.layout.strides.now a.starts.now c.args.destination.now c.args.source.now a.served many _ _ _ _ c.plan_into-rank.ensures _ c.begin_on.ensures _ c.in_ok-walk.was e short;
      walk_value = walk-begun a.machine a.layout.extents.now a.sizes.now a.layout.strides.now a.starts.now c.args.destination.now c.args.source.now a.served many _ _ _ _ c.plan_into-rank.ensures _ c.begin_on.ensures _ c.in_ok-walk.was e;
    }

pub returns : goal.returns
returns c =
    let many : length c.args.asked.starts.now ≡ length c.args.asked.sizes.now = c.if-asked.false in
    let a = c.args.asked in
    all_done a.machine a.layout.extents.now a.sizes.now a.layout.strides.now a.starts.now c.args.destination.now c.args.source.now a.served many _ _ _ _ c.plan_into-rank.ensures _ c.begin_on.ensures _ c.in_ok-walk.was
    (passed_width _ a.sizes.now c.check_cells.ensures c.in_ok-width.was) _ c.copy_blocks.ensures
