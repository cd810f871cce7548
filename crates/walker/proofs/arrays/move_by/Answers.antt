-- `walker::arrays::move_by` meets its contract. Assumes nothing.
use Rattle.walker.proofs.Rows.{sum_is}
use borrow.Author.Rules.{rules}
use native.Mathlib.Omega.{arith}
use native.Mathlib.Nat.{le_antisymm}
use Prim.Native.Nat.{ℕ}
use mathlib.Core.Path.{sym, ap, ◌∙◌, subst}
use mir.Facts.{to_z-of_z}
use mir.Syntax.{w64}
use mir.Val.{SFits}
use Rattle.advance.specs.Filled.{filled_none, filled_more}
use Rattle.walker.specs.Way.{added}
use Rattle.walker.proofs.arrays.move_by.Goals as goal

pub loop-k-init : goal.loop-k-init
loop-k-init c = (omega arith, filled_none _ _)

pub overflow_add-o : goal.overflow_add-o
overflow_add-o c =
    let a = c.args in
    let l = c.loop-k in
    subst (SFits w64) (sym (sum_is a.d.now a.o.now l.o l.k l.invariant.1 (search rules) (search rules)))
    (c.requires.fits l.k c.loop-k-test.true)

pub loop-k-preserved : goal.loop-k-preserved
loop-k-preserved c =
    let a = c.args in
    let l = c.loop-k in
    let e = sum_is a.d.now a.o.now l.o l.k l.invariant.1 (search rules) (search rules) in
    let f = c.requires.fits l.k c.loop-k-test.true in
    (omega arith, filled_more _ _ l.k l.o _ l.invariant.1 (to_z-of_z {w = w64} (subst (SFits w64) (sym e) f) ∙ e))

pub returns : goal.returns
returns c = c.loop-k.invariant.1 ∙ ap (λ (n : ℕ). added n c.args.d.now c.args.o.now) (le_antisymm c.loop-k.invariant.0 c.loop-k-test.false)
