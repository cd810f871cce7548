-- `advance::arrays::shift` meets its contract. Assumes nothing.
use borrow.Author.Rules.{rules, sfits_of}
use native.Mathlib.Omega.{arith}
use mathlib.Core.Path.{◌≡◌, sym, ap, ◌∙◌, subst}
use native.Mathlib.Nat.{le_refl}
use lib.IntN.{ℤ, pos}
use lib.ListN.{get_or}
use mathlib.Core.List.{List}
use mir.Facts.{to_z-of_z}
use Rattle.advance.proofs.Signed.{moves_read, after_read}
use Rattle.advance.proofs.Dot.{unmoved_at}
use Rattle.advance.specs.Filled.{filled_none, filled_more, filled_above}
use Prim.Native.Nat.{zero-le, ◌<◌, ◌+◌, ◌*◌}
use Rattle.advance.specs.Moves.{moved_at, after_move, Moves, shifted_to}
use Rattle.advance.proofs.arrays.shift.Goals as goal
use mir.Syntax.{w64}

pub returns-then-from-to : goal.returns-then-from-to
returns-then-from-to c =
    let a = c.args in
    unmoved_at a.operands a.axis a.from a.to a.s.now a.o.now c.if-from-to.true

pub loop-k-init : goal.loop-k-init
loop-k-init c = (zero-le, filled_none _ _)

pub moved-requires : goal.moved-requires
moved-requires c =
    let a = c.args in
    let k = c.loop-k.k in
    moves_read _ _ _ _ (search rules) (search rules)
    (subst (λ (z : ℤ). Moves z (get_or a.s.now (k * 64 + a.axis) (pos 0)) a.from a.to)
    (sym (ap (λ (l : List ℤ). get_or l k (pos 0)) c.loop-k.invariant.1 ∙ filled_above a.o.now (moved_at a.axis a.from a.to a.s.now a.o.now) (pos 0) k k (le_refl k)))
    (c.requires.moves.each k (let h : k < a.operands = omega (arith, c.loop-k-test.true, c.min-k-end.ensures) in h)))

pub loop-k-preserved : goal.loop-k-preserved
loop-k-preserved c =
    let a = c.args in
    let k = c.loop-k.k in
    let s = a.s.now in
    let e = c.loop-k.invariant.1 in (
      omega arith,
      filled_more a.o.now (moved_at a.axis a.from a.to s a.o.now) k _ _ e
          (to_z-of_z {w = w64} (sfits_of c.moved.type_inv) ∙ c.moved.ensures ∙ after_read _ _ _ _ (search rules) (search rules)
          ∙ ap (λ (z : ℤ). after_move z (get_or s (k * 64 + a.axis) (pos 0)) a.from a.to)
          (ap (λ (l : List ℤ). get_or l k (pos 0)) e ∙ filled_above a.o.now (moved_at a.axis a.from a.to s a.o.now) (pos 0) k k (le_refl k))),
    )

pub returns : goal.returns
returns c =
    let a = c.args in
    c.loop-k.invariant.1 ∙ ap (λ k. shifted_to k a.axis a.from a.to a.s.now a.o.now) (let h : c.loop-k.k ≡ a.operands = omega (arith, c.loop-k.invariant.0, c.loop-k-test.false, c.min-k-end.ensures, c.requires.few) in h)
