-- `cells::runs::copy_cell` meets its contract. Assumes nothing.
use mathlib.Core.Path.{ap₂, ◌∙◌}
use Prim.Native.Nat.{ℕ, ◌+◌, ◌≤◌}
use borrow.Author.Rules.{rules}
use lib.ListN.{length}
use Rattle.cells.specs.Copy.{moved}
use Rattle.cells.proofs.Moving.{moved_slice}
use Rattle.cells.proofs.runs.copy_cell.Goals as goal

pub returns : goal.returns
returns c =
    let a = c.args in
    let h : c.place_of-d.result + a.patch.width ≤ length a.destination.now = search rules in
    let g : c.place_of-s.result + a.patch.width ≤ length a.source.now = search rules in
    moved_slice a.destination.now c.place_of-d.result a.source.now c.place_of-s.result a.patch.width h g c.move_piece.new.to c.move_piece.ensures
    ∙ ap₂ (λ (x y : ℕ). moved a.destination.now x a.source.now y a.patch.width) c.place_of-d.ensures c.place_of-s.ensures
