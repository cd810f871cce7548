-- `cells::fours::copy_four` meets its contract: cell by cell across the runs is another order of the same cells. Assumes nothing.
use mathlib.Core.Path.{◌≡◌, ap, ◌∙◌}
use Prim.Native.Nat.{ℕ, ◌+◌, ◌≤◌}
use native.Mathlib.Omega.{arith}
use Rattle.cells.specs.Copy.{copied}
use Rattle.cells.specs.Reaching.{crossing}
use Rattle.cells.proofs.Crossing.{runs_fewer, still_runs, crossing_none, crossing_more, crossing-copied}
use Rattle.cells.proofs.fours.copy_four.Goals as goal

pub loop-i-init : goal.loop-i-init
loop-i-init c = (omega arith, crossing_none _ _ _ _ _ _ _)

pub copy_across-requires : goal.copy_across-requires
copy_across-requires c =
    let h : c.loop-i.i + 1 ≤ c.args.patch.n0 = (let t = c.loop-i-test.true in omega (arith, t)) in record { j_bound = c.requires.j_bound; runs_in = runs_fewer _ _ _ _ _ _ _ (still_runs _ _ _ _ _ _ _ _ c.requires.runs_in c.loop-i.invariant.1) h; runs_in_2 = runs_fewer _ _ _ _ _ _ _ c.requires.runs_in_2 h }

pub loop-i-preserved : goal.loop-i-preserved
loop-i-preserved c =
    let a = c.args in (omega arith, crossing_more _ a.j 4 a.patch.to a.patch.from _ _ c.loop-i.i c.loop-i.invariant.1 c.copy_across.ensures)

pub returns : goal.returns
returns c =
    let a = c.args in
    let e : c.loop-i.i ≡ a.patch.n0 = omega arith in
    c.loop-i.invariant.1
    ∙ ap (λ (n : ℕ). copied a.patch.width (crossing n a.j 4 a.patch.to a.patch.from) a.destination.now a.source.now) e
    ∙ crossing-copied a.patch.n0 a.j 4 a.patch.to a.patch.from a.patch.width a.destination.now a.source.now c.requires.runs_in c.requires.runs_in_2 c.requires.apart
