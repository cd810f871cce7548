-- The invariants of `rows::fold_row`.
use Rattle.std.specs.List.{FoldsTo}
use Rattle.numpy.proofs.Reading.{Reading}
use Rattle.numpy.proofs.rows.fold_row.Given as goal

abbrev pub invariant-loop : goal.invariant-loop
invariant-loop g l = let m = g.T.Number in Reading m.text m.fits l.s l.count l.rest l.counter (λ xs. FoldsTo (λ a v b. goal.F-post g l.f a v b) l.fn.first xs l.a)
