-- `model::block_sizes_into` meets its contract: each test that keeps the axes whole, and what is cut, declined or fitted, is a case of `cut_blocks`
-- (Whole). Assumes nothing.
use native.Mathlib.Omega.{arith}
use mathlib.Core.Path.{◌≡◌, refl, sym, ◌∙◌}
use mathlib.Core.Bool.{false}
use lib.ListN.{length}
use borrow.Author.Tests.{le-leb, lt-leb}
use Rattle.model.proofs.Filled.{rows_read}
use Rattle.strided.specs.Region.{byte_table}
use Rattle.laws.specs.Cut.Image.{Images}
use Rattle.model.specs.Exits.{exits}
use Rattle.model.proofs.Whole.{whole_in_order, whole-exits, exits_fits, exits-not, whole-declined, whole-fitted}
use Rattle.model.proofs.block_sizes_into.Goals as goal
use Rattle.model.proofs.block_sizes_into.Goals.{After-byte_table_into, After-cut_axes}

-- what the table of byte strides has
bytes-are : (c : After-byte_table_into) → let a = c.args in Images a.machine (length a.axes.sizes.now) a.axes.rank c.byte_table_into.new.table (byte_table a.axes.sizes.now a.axes.strides.now)
bytes-are c =
    let a = c.args in
    rows_read a.machine a.axes.sizes.now a.axes.strides.now a.axes.rank (length a.axes.sizes.now) _ refl c.requires.plannable.few c.requires.plannable.axes c.byte_table_into.ensures

-- where the axes are cut there is no exit
no_exit : (c : After-cut_axes) → let a = c.args in exits a.machine c.byte_table_into.new.table a.axes.sizes.now a.axes.extents.now a.axes.strides.now a.axes.rank ≡ false
no_exit c =
    let a = c.args in
    exits-not a.machine _ a.axes.sizes.now a.axes.extents.now a.axes.strides.now a.axes.rank (sym c.keeps_order.ensures ∙ c.if-keeps_order.false) (lt-leb _ _ (omega (arith, c.whole_region-r.ensures, c.if-r-machine.false)))

pub returns-then-keeps_order : goal.returns-then-keeps_order
returns-then-keeps_order c =
    let a = c.args in
    sym (whole_in_order a.machine a.axes.sizes.now a.axes.extents.now a.axes.strides.now a.axes.rank a.purpose (sym c.keeps_order.ensures ∙ c.if-keeps_order.true))

pub returns-then-r-machine : goal.returns-then-r-machine
returns-then-r-machine c =
    let table = bytes-are (goal.at.returns-then-r-machine c).After-byte_table_into in
    let a = c.args in
    let es = a.axes.extents.now in
    let t = c.byte_table_into.new.table in
    sym (whole-exits a.machine a.axes.sizes.now es a.axes.strides.now a.axes.rank a.purpose c.requires.allowed t table
    (exits_fits a.machine t a.axes.sizes.now es a.axes.strides.now a.axes.rank (le-leb _ _ (omega (arith, c.whole_region-r.ensures, c.if-r-machine.true)))))

-- what no purpose changes
pub cut_axes-requires-clause-plannable : goal.cut_axes-requires-clause-plannable
cut_axes-requires-clause-plannable c =
    let n = c.requires.plannable in record {
      axes = n.axes;
      one = n.one;
      few = n.few;
      places = n.places;
      table = n.table;
      small = n.small;
      there = refl;
      near = n.near;
    }

pub cut_axes-requires-clause-images : goal.cut_axes-requires-clause-images
cut_axes-requires-clause-images c = bytes-are (goal.at.cut_axes-requires-clause-images c).After-byte_table_into

pub declines_tiles-requires : goal.declines_tiles-requires
declines_tiles-requires c =
    c.requires.plannable.near

pub returns-then-declines_tiles : goal.returns-then-declines_tiles
returns-then-declines_tiles c =
    let table = bytes-are (goal.at.returns-then-declines_tiles c).After-byte_table_into in
    let on = no_exit (goal.at.returns-then-declines_tiles c).After-cut_axes in
    let a = c.args in
    whole-declined a.machine a.axes.sizes.now a.axes.extents.now a.axes.strides.now a.axes.rank a.purpose c.requires.allowed _ table _ c.cut_axes.ensures on
    (sym c.declines_tiles.ensures ∙ c.if-declines_tiles.true)

pub returns : goal.returns
returns c =
    let table = bytes-are (goal.at.returns c).After-byte_table_into in
    let on = no_exit (goal.at.returns c).After-cut_axes in
    let a = c.args in
    whole-fitted a.machine a.axes.sizes.now a.axes.extents.now a.axes.strides.now a.axes.rank a.purpose c.requires.allowed _ table _ c.cut_axes.ensures on
    (sym c.declines_tiles.ensures ∙ c.if-declines_tiles.false) c.fit_for.ensures
