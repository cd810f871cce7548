-- `judge::cells::Cells::step_at` meets its contract: the product of the first extents.
-- Assumes nothing.
use mathlib.Core.Path.{◌≡◌, sym, ap, ◌∙◌}
use Prim.Native.Nat.{ℕ, ◌+◌, ◌*◌, ◌≤◌}
use native.Mathlib.Omega.{arith}
use lib.ListN.{get_or, take}
use borrow.Author.Rules.{rules}
use Rattle.std.proofs.lemmas.List.{length-take-le}
use Rattle.judge.specs.Laying.{step_of}
use Rattle.judge.proofs.Steps.{step-zero, step-taken, step_fits}
use Rattle.judge.proofs.cells.Cells.step_at.Goals as goal

pub loop-extent-init : goal.loop-extent-init
loop-extent-init c = sym (step-zero c.args.self.extents.now)

pub overflow_mul-step : goal.overflow_mul-step
overflow_mul-step c =
    let a = c.args in
    let l = c.loop-extent in
    let es = a.self.extents.now in
    let r = c.requires in
    let s = step-taken es a.axis (omega (arith, r.1)) l.extent-index c.loop-extent-test.true in
    let h : l.step * get_or (take a.axis es) l.extent-index 0 ≤ 65536 =
    omega (arith, ap (λ (k : ℕ). k * get_or (take a.axis es) l.extent-index 0) l.invariant, s.1, step_fits es (l.extent-index + 1) r.0 (omega (arith, s.0, r.1)), c.args.self.small) in
    search rules

pub loop-extent-preserved : goal.loop-extent-preserved
loop-extent-preserved c =
    let a = c.args in
    let l = c.loop-extent in
    let r = c.requires in
    ap (λ (k : ℕ). k * get_or (take a.axis a.self.extents.now) l.extent-index 0) l.invariant ∙ (step-taken a.self.extents.now a.axis (omega (arith, r.1)) l.extent-index c.loop-extent-test.true).1

pub returns : goal.returns
returns c =
    let a = c.args in
    let r = c.requires in
    let e : c.loop-extent.extent-index ≡ a.axis = (let t = c.loop-extent-test.false in let u = c.loop-extent.auto.extent-index-end in omega (arith, length-take-le a.axis a.self.extents.now (omega (arith, r.1)), t, u)) in
    c.loop-extent.invariant ∙ ap (step_of a.self.extents.now) e
