-- `cells::bytes::move_bytes` meets its contract. Assumes nothing.
use mathlib.Core.Path.{◌≡◌, sym, ap, ◌∙◌}
use Prim.Native.Nat.{ℕ, ◌+◌, ◌-◌, ◌≤◌}
use native.Mathlib.Omega.{arith}
use borrow.Rule.Slice.PartMut.{put_mid}
use lib.ListN.{length, take, drop}
use Rattle.cells.specs.Copy.{moved}
use Rattle.cells.specs.Meaning.{moved_length, moved_none}
use Rattle.cells.proofs.Moving.{piece_more, moved_whole}
use Rattle.cells.proofs.bytes.move_bytes.Goals as goal

pub loop-i-init : goal.loop-i-init
loop-i-init c = (omega arith, moved_none _ _ _ _)

pub loop-i-preserved : goal.loop-i-preserved
loop-i-preserved c =
    let a = c.args in
    let h : c.loop-i.i + 16384 ≤ length a.from.now = omega arith in
    (h, piece_more a.from.now a.to.now c.loop-i.i c.requires.alike c.loop-i.to c.loop-i.invariant.1 c.move_piece.new.to 16384 h c.move_piece.ensures)

pub returns : goal.returns
returns c =
    let a = c.args in
    let i : ℕ = c.loop-i.i in
    let n : ℕ = length a.from.now - i in
    let q : i + n ≡ length a.from.now = omega arith in
    let m : i + n - i ≡ n = omega arith in
    let long : length c.loop-i.to - i ≡ i + n - i = omega (arith, ap length c.loop-i.invariant.1, moved_length a.to.now 0 a.from.now 0 i, c.requires.alike) in
    let f : c.move_piece-2.new.to ≡ take n (drop i a.from.now) = c.move_piece-2.ensures in
    ap (λ (k : ℕ). put_mid i k c.loop-i.to c.move_piece-2.new.to) long
    ∙ piece_more a.from.now a.to.now i c.requires.alike c.loop-i.to c.loop-i.invariant.1 c.move_piece-2.new.to n (omega (arith, q)) (f ∙ ap (λ (k : ℕ). take k (drop i a.from.now)) (sym m))
    ∙ ap (moved a.to.now 0 a.from.now 0) q
    ∙ moved_whole a.from.now a.to.now c.requires.alike
