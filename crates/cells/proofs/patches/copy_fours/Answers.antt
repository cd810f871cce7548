-- `cells::patches::copy_fours` meets its contract. Assumes nothing.
use mathlib.Core.Path.{◌≡◌, ap, ◌∙◌}
use Prim.Native.Nat.{ℕ, ◌+◌, ◌*◌, ◌/◌, ◌≤◌}
use native.Mathlib.Omega.{arith}
use Rattle.cells.specs.Copy.{copied}
use Rattle.cells.specs.Patch.{patch_cells}
use Rattle.cells.proofs.Running.{run_more}
use Rattle.cells.proofs.Patching.{patch-run, patch_runs, patch_start, still_in, runs_more, runs_apart}
use Rattle.cells.proofs.patches.copy_fours.Goals as goal

pub loop-four-init : goal.loop-four-init
loop-four-init c = patch_start _ _ _ _ _ _

pub copy_four-requires : goal.copy_four-requires
copy_four-requires c =
    let r = still_in _ _ _ _ c.requires.reach c.loop-four.invariant in
    let t = c.loop-four-test.true in
    let h : 4 * c.loop-four.four + 4 ≤ c.args.patch.n1 = omega arith in
    let f = c.args.patch.few.1 in record { j_bound = omega arith; runs_in = patch_runs _ _ _ _ _ _ _ r.to h; runs_in_2 = patch_runs _ _ _ _ _ _ _ r.from h; apart = runs_apart _ _ _ _ c.args.patch.n1 _ _ h c.requires.apart }

pub loop-four-preserved : goal.loop-four-preserved
loop-four-preserved c =
    let a = c.args in
    let e : 4 * c.loop-four.four + 4 ≡ 4 * (c.loop-four.four + 1) = omega arith in
    runs_more _ _ _ _ _ _ _ _ c.loop-four.invariant c.copy_four.ensures
    ∙ ap (λ (n : ℕ). copied a.patch.width (patch_cells a.patch.n0 n a.patch.to a.patch.from) a.destination.now a.source.now) e

pub loop-j-init : goal.loop-j-init
loop-j-init c =
    let a = c.args in
    let t = c.loop-four-test.false in
    let u = c.loop-four.auto.four-end in
    let e : 4 * c.loop-four.four ≡ 4 * (a.patch.n1 / 4) = omega arith in
    c.loop-four.invariant ∙ ap (λ (n : ℕ). copied a.patch.width (patch_cells a.patch.n0 n a.patch.to a.patch.from) a.destination.now a.source.now) e

pub copy_run-requires : goal.copy_run-requires
copy_run-requires c =
    let r = still_in _ _ _ _ c.requires.reach c.loop-j.invariant in
    let h = c.loop-j-test.true in record { run_in = patch-run _ _ _ _ _ _ r.to h; run_in_2 = patch-run _ _ _ _ _ _ r.from h }

pub loop-j-preserved : goal.loop-j-preserved
loop-j-preserved c = run_more _ _ _ _ _ _ _ c.loop-j.invariant c.copy_run.ensures

pub returns : goal.returns
returns c =
    let a = c.args in
    let t = c.loop-j-test.false in
    let u = c.loop-j.auto.j-end in
    let e : c.loop-j.j ≡ a.patch.n1 = omega arith in
    c.loop-j.invariant ∙ ap (λ (n : ℕ). copied a.patch.width (patch_cells a.patch.n0 n a.patch.to a.patch.from) a.destination.now a.source.now) e
