-- `session::check::row_picked` meets its contract. Assumes nothing.
use mathlib.Core.Path.{◌≡◌, ap, ◌∙◌}
use lib.Dec.{eqb}
use lib.IntN.{ℤ, pos}
use lib.ListN.{length, get_or}
use Rattle.std.proofs.Common.{rules}
use Rattle.strided.specs.Step.{blank_z}
use Rattle.strided.specs.Fuse.{eq_z}
use Rattle.session.proofs.Holding.{rest_is}
use Rattle.session.proofs.Picking.{row_seen, row-over}
use Rattle.session.proofs.check.row_picked.Goals as goal

pub alike-picked-requires : goal.alike-picked-requires
alike-picked-requires c = λ i h. let q = c.requires.by_index i h in search (rules, q, h, c.requires.few)

pub returns : goal.returns
returns c =
    let a = c.args in
    let few = c.requires.few.0 in
    let long = c.requires.few.1 in
    row-over a.strides.now a.axes.now few a.row.now long c.alike-picked.result c.all_zero-rest.result
    (row_seen a.strides.now a.axes.now few a.row.now long c.alike-picked.ensures
    (λ i x h p.
    let s : ℤ = get_or a.strides.now (get_or a.axes.now i 0) (pos 0) in
    let r : ℤ = get_or a.row.now i (pos 0) in
    let is : eqb x 0 ≡ eq_z s r = search (rules, p) in is))
    (c.all_zero-rest.ensures ∙ ap blank_z (rest_is (length a.axes.now) a.row.now))
