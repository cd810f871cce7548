-- `bulk::put_row` meets its contract. Assumes nothing.
use Rattle.bulk.proofs.Laying.{row_next, paste_whole, row-many, row-place, place-fits, place-holds}
use Rattle.bulk.specs.Blocks.{row_at}
use borrow.Author.Rules.{rules}
use native.Mathlib.Nat.{le_antisymm}
use native.Mathlib.Omega.{arith}
use mathlib.Core.Path.{ap, ◌∙◌}
use mathlib.Core.List.{List}
use Prim.Native.Nat.{ℕ, ◌<◌}
use lib.IntN.{ℤ, pos}
use lib.ListN.{length, get_or, length-set}
use lib.Seq.{paste}
use mir.Syntax.{w64}
use mir.Val.{SFits}
use Rattle.bulk.proofs.put_row.Goals as goal

pub overflow_add-row : goal.overflow_add-row
overflow_add-row c =
    let d-fits : SFits w64 (get_or c.args.d.now c.loop-k.k (pos 0)) = search rules in
    let o-fits : SFits w64 (get_or c.args.o.now c.loop-k.k (pos 0)) = search rules in
    let f = c.requires in
    place-fits f.small d-fits (f.steps _ c.loop-k-test.true) o-fits (f.fits _ c.loop-k-test.true)

pub loop-k-preserved : goal.loop-k-preserved
loop-k-preserved c =
    let a = c.args in
    let m : ℕ = length a.row.now in
    let l = c.loop-k in
    let f = c.requires in
    let here : l.k < m = c.loop-k-test.true in
    let d-fits : SFits w64 (get_or a.d.now l.k (pos 0)) = search rules in
    let o-fits : SFits w64 (get_or a.o.now l.k (pos 0)) = search rules in
    let many = row-many m a.d.now a.o.now f.few f.moves f.offered a.j in
    let value = place-holds f.small d-fits (f.steps _ here) o-fits (f.fits _ here) ∙ row-place m a.d.now a.o.now f.few f.moves f.offered a.j l.k here in (
      omega (arith, here),
      simp length-set l.invariant.1,
      row_next l.row a.row.now (row_at m a.d.now a.o.now a.j) l.k (pos 0) l.invariant.2 value here (omega (arith, here, many)),
    )

pub returns : goal.returns
returns c =
    let a = c.args in
    let m : ℕ = length a.row.now in
    let f = c.requires in
    let ys : List ℤ = row_at m a.d.now a.o.now a.j in
    c.loop-k.invariant.2
    ∙ ap (paste a.row.now 0 ys) (le_antisymm c.loop-k.invariant.0 c.loop-k-test.false)
    ∙ paste_whole a.row.now ys (row-many m a.d.now a.o.now f.few f.moves f.offered a.j)
