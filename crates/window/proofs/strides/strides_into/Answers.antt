-- `window::strides::strides_into` meets its contract. Assumes nothing.
use mathlib.Core.Path.{◌≡◌, sym, ◌∙◌, ap}
use mathlib.Core.List.{List}
use Prim.Native.Nat.{ℕ, ◌+◌, ◌*◌, ◌≤◌}
use native.Mathlib.Nat.{le_antisymm, zero-mul}
use native.Mathlib.Omega.{arith}
use lib.IntN.{ℤ, pos}
use lib.ListN.{length, get_or, take}
use lib.Seq.{take-length}
use mir.Syntax.{w64}
use mir.Val.{to_z, of_z}
use Rattle.strided.specs.Base.{padded}
use Rattle.laws.specs.Base.Filling.{fill_none}
use Rattle.laws.specs.Base.Stores.{fill_first}
use Rattle.window.specs.Window.{stepped_stride}
use Rattle.window.specs.Selected.{new_strides}
use Rattle.window.proofs.Selected.{strides_length, strides_few, places_all, row_behind, place_there, stride_made, held_made}
use Rattle.laws.specs.Base.Signs.{back}
use borrow.Author.Rules.{rules}
use Rattle.window.proofs.strides.strides_into.Goals as goal

pub loop-k-init : goal.loop-k-init
loop-k-init c =
    let s = c.args.selection in
    c.requires.table_value ∙ fill_none 512 (pos 0)
    ∙ ap (λ (n : ℕ). padded 512 (pos 0) (take n (new_strides s))) (sym (zero-mul (length s.layout.extents.now)))

pub loop-i-init : goal.loop-i-init
loop-i-init c =
    let s = c.args.selection in
    let at : ℕ = c.loop-k.k * length s.layout.extents.now in
    let e : at ≡ at + 0 = omega arith in
    c.loop-k.invariant ∙ ap (λ (n : ℕ). padded 512 (pos 0) (take n (new_strides s))) e

pub new_stride-requires : goal.new_stride-requires
new_stride-requires c =
    let s = c.args.selection in
    let i = c.loop-i.i in
    let u : ℤ = get_or c.row.result.strides.now i (pos 0) in
    let e = c.at.ensures in
    rw (e.1, e.2, back u (search rules))
    (held_made s c.loop-k.k c.loop-k-test.true c.row.ensures i c.loop-i-test.true c.requires.held)

pub loop-i-preserved : goal.loop-i-preserved
loop-i-preserved c =
    let s = c.args.selection in
    let k = c.loop-k.k in
    let i = c.loop-i.i in
    let ws : List ℤ = new_strides s in
    let at : ℕ = k * length s.layout.extents.now + i in
    -- the stride that is stored
    let stored : to_z w64 (of_z w64 c.new_stride.result) ≡ get_or ws at (pos 0) =
    let u : ℤ = get_or c.row.result.strides.now i (pos 0) in
    let e = c.at.ensures in
    let b : to_z w64 (of_z w64 u) ≡ u = back u (search rules) in
    back c.new_stride.result (record { sfits = c.new_stride.type_inv }) ∙ c.new_stride.ensures
    ∙ (λ n. stepped_stride (e.1 n) (e.2 n) (b n))
    ∙ sym (stride_made s k c.loop-k-test.true c.row.ensures i c.loop-i-test.true) in
    let few : length ws ≤ 512 = omega (arith, strides_length s, strides_few s) in
    let e : at + 1 ≡ k * length s.layout.extents.now + (i + 1) = omega arith in
    rw (c.loop-i.invariant, stored) (fill_first (pos 0) 512 ws at few (place_there s k c.loop-k-test.true c.row.ensures i c.loop-i-test.true))
    ∙ ap (λ (n : ℕ). padded 512 (pos 0) (take n ws)) e

pub loop-k-preserved : goal.loop-k-preserved
loop-k-preserved c =
    let s = c.args.selection in
    let rank : ℕ = length s.layout.extents.now in
    let e : c.loop-i.i ≡ length c.row.result.strides.now = le_antisymm c.loop-i.auto.i-end c.loop-i-test.false in
    c.loop-i.invariant
    ∙ ap (λ (n : ℕ). padded 512 (pos 0) (take n (new_strides s)))
    (ap (λ (n : ℕ). c.loop-k.k * rank + n) e ∙ sym (row_behind s c.loop-k.k c.loop-k-test.true c.row.ensures))

pub returns : goal.returns
returns c =
    let s = c.args.selection in
    let ws : List ℤ = new_strides s in
    let rank : ℕ = length s.layout.extents.now in
    let e : c.loop-k.k ≡ s.layout.operands = le_antisymm c.loop-k.auto.k-end c.loop-k-test.false in
    c.loop-k.invariant ∙ ap (λ (n : ℕ). padded 512 (pos 0) (take n ws)) (ap (λ (n : ℕ). n * rank) e ∙ places_all s) ∙ ap (padded 512 (pos 0)) (take-length ws)
