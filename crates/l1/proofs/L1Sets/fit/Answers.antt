-- `l1::L1Sets::fit` meets its contract. The loop goes down from the outermost axis; the invariant: `fit_from` on the axes below n gives what is
-- wanted. Each turn is a case of `fit_from` (laws, Cut/Cases), with its tests by the L1Sets (Loads). Assumes nothing.
use native.Mathlib.Omega.{arith}
use mathlib.Core.Path.{◌≡◌, sym, ap, ◌∙◌}
use mathlib.Core.List.{List}
use mathlib.Core.Bool.{true, false}
use Prim.Native.Nat.{ℕ, ◌+◌, ◌-◌, ◌*◌, ◌≤◌, ◌<◌}
use lib.IntN.{pos}
use lib.ListN.{get_or, set}
use lib.Seq.{set-set}
use borrow.Author.Tests.{lt-ltb, le-ltb, eq-eqb, ne_eqb}
use Rattle.strided.specs.Fit.{load, shortens, fit_from}
use Rattle.laws.specs.Base.Bits.{zero_bits}
use Rattle.laws.specs.Cut.Cases.{shortens_above, fit_none, fit_skip, fit_on, fit_last, fitted_small, fitted_big}
use Rattle.l1.specs.Live.{load_by, most_by, chosen_size}
use Rattle.l1.proofs.Loads.{load_by_lem, enters_by_lem, most_by_lem}
use Rattle.l1.proofs.L1Sets.fit.Goals as goal
use Rattle.l1.proofs.L1Sets.fit.Goals.{After-of-sets, After-set_block, else-moves-via-then-moves+then-enters+else-whole-gt1, else-moves-via-then-moves+else-enters, else-moves-via-else-moves}
use Rattle.std.proofs.Common.{rules}

-- the load that the code tests is the definition's
whole-load : (c : After-of-sets) (b : List ℕ) → let a = c.args in load a.cut.machine.numbers a.cut.bytes.now a.cut.axes.sizes.now a.cut.axes.rank b ≡ load_by c.of-sets.result b
whole-load c b = let a = c.args in load_by_lem a.cut.machine.numbers a.cut.bytes.now a.cut.axes.sizes.now a.cut.axes.rank c.of-sets.result c.of-sets.ensures b

-- where the block is set to 1 the definition's test holds
holds : (c : After-set_block) → let a = c.args in
    shortens a.cut.machine.numbers a.cut.bytes.now a.cut.axes.sizes.now a.cut.axes.rank (chosen_size a.cut.axes.strides.now a.chosen) c.loop-i.blocks (c.loop-i.i - 1) ≡ true
unfolding shortens
holds c =
    let a = c.args in
    let i : ℕ = c.loop-i.i - 1 in
    rw (enters_by_lem a.cut.machine.numbers a.cut.bytes.now a.cut.axes.sizes.now a.cut.axes.rank c.of-sets.result c.of-sets.ensures i, zero_bits (get_or a.cut.axes.strides.now (a.chosen * 64 + i) (pos 0)) (search rules))
    (rw (ne_eqb _ _ c.if-moves.true, sym c.enters.ensures ∙ c.if-enters.true, lt-ltb 1 _ c.if-whole-gt1.true))

pub returns-then-load-live : goal.returns-then-load-live
returns-then-load-live c =
    let a = c.args in
    let whole = whole-load (goal.at.returns-then-load-live c).After-of-sets a.blocks.now in
    sym (fitted_small a.cut.machine.numbers a.cut.bytes.now a.cut.axes.sizes.now a.cut.axes.rank (chosen_size a.cut.axes.strides.now a.chosen) a.blocks.now (omega (arith, whole, c.load.ensures, c.if-load-live.true)))

pub loop-i-init : goal.loop-i-init
loop-i-init c =
    let a = c.args in
    let whole = whole-load (goal.at.loop-i-init c).After-of-sets a.blocks.now in
    sym (fitted_big a.cut.machine.numbers a.cut.bytes.now a.cut.axes.sizes.now a.cut.axes.rank (chosen_size a.cut.axes.strides.now a.chosen) a.blocks.now (omega (arith, whole, c.load.ensures, c.if-load-live.false)))

pub set_block-requires : goal.set_block-requires
set_block-requires c = omega arith

pub widen-requires : goal.widen-requires
widen-requires c =
    let a = c.args in
    let b : List ℕ = c.loop-i.blocks in
    let i : ℕ = c.loop-i.i - 1 in
    let above = shortens_above a.cut.machine.numbers a.cut.bytes.now a.cut.axes.sizes.now a.cut.axes.rank (chosen_size a.cut.axes.strides.now a.chosen) b i (holds (goal.at.widen-requires c).After-set_block) in
    let e = ap (λ (x : List ℕ). load_by c.of-sets.result (set x i 1)) c.set_block.ensures.blocks ∙ ap (load_by c.of-sets.result) (set-set b i 1 1) in
    (omega arith, (omega arith, (omega arith, omega (arith, e, c.set_block.ensures.load, c.if-set_block-live.true))))

pub returns-then-set_block-live : goal.returns-then-set_block-live
returns-then-set_block-live c =
    let at = goal.at.returns-then-set_block-live c in
    let a = c.args in
    let b : List ℕ = c.loop-i.blocks in
    let i : ℕ = c.loop-i.i - 1 in
    let one : List ℕ = set b i 1 in
    let small : load a.cut.machine.numbers a.cut.bytes.now a.cut.axes.sizes.now a.cut.axes.rank one ≤ a.cut.machine.numbers.live = omega (arith, whole-load at.After-of-sets one, c.set_block.ensures.load, c.if-set_block-live.true) in
    c.widen.ensures
    ∙ ap (λ (x : List ℕ). set x i (most_by a.cut.machine.numbers.live c.of-sets.result x i (get_or b i 0))) c.set_block.ensures.blocks
    ∙ set-set b i 1 (most_by a.cut.machine.numbers.live c.of-sets.result one i (get_or b i 0))
    ∙ ap (set b i) (sym (most_by_lem a.cut.machine.numbers a.cut.bytes.now a.cut.axes.sizes.now a.cut.axes.rank c.of-sets.result c.of-sets.ensures b i 1))
    ∙ sym (fit_last a.cut.machine.numbers a.cut.bytes.now a.cut.axes.sizes.now a.cut.axes.rank (chosen_size a.cut.axes.strides.now a.chosen) b c.loop-i.i (omega arith) (holds at.After-set_block) small) ∙ c.loop-i.invariant

pub loop-i-preserved-then-whole-gt1 : goal.loop-i-preserved-then-whole-gt1
loop-i-preserved-then-whole-gt1 c =
    let at = goal.at.loop-i-preserved-then-whole-gt1 c in
    let a = c.args in
    let b : List ℕ = c.loop-i.blocks in
    let n : ℕ = c.loop-i.i in
    let one : List ℕ = set b (n - 1) 1 in
    let from : List ℕ → List ℕ = fit_from a.cut.machine.numbers a.cut.bytes.now a.cut.axes.sizes.now a.cut.axes.rank (chosen_size a.cut.axes.strides.now a.chosen) (n - 1) in
    let big : a.cut.machine.numbers.live < load a.cut.machine.numbers a.cut.bytes.now a.cut.axes.sizes.now a.cut.axes.rank one = omega (arith, whole-load at.After-of-sets one, c.set_block.ensures.load, c.if-set_block-live.false) in
    ap from c.set_block.ensures.blocks
    ∙ sym (fit_on a.cut.machine.numbers a.cut.bytes.now a.cut.axes.sizes.now a.cut.axes.rank (chosen_size a.cut.axes.strides.now a.chosen) b n (omega arith) (holds at.After-set_block) big) ∙ c.loop-i.invariant

pub loop-i-preserved : goal.loop-i-preserved
unfolding shortens
loop-i-preserved c =
    let a = c.args in
    let b : List ℕ = c.loop-i.blocks in
    let n : ℕ = c.loop-i.i in
    let skips : shortens a.cut.machine.numbers a.cut.bytes.now a.cut.axes.sizes.now a.cut.axes.rank (chosen_size a.cut.axes.strides.now a.chosen) b (n - 1) ≡ false =
    rw (enters_by_lem a.cut.machine.numbers a.cut.bytes.now a.cut.axes.sizes.now a.cut.axes.rank c.of-sets.result c.of-sets.ensures (n - 1), zero_bits (get_or a.cut.axes.strides.now (a.chosen * 64 + (n - 1)) (pos 0)) (search rules))
    (elim c.else-moves.branch [
      | else-moves-via-then-moves+then-enters+else-whole-gt1 w ↦ rw (ne_eqb _ _ w.if-moves.true, sym w.enters.ensures ∙ w.if-enters.true, le-ltb 1 _ w.if-whole-gt1.false)
      | else-moves-via-then-moves+else-enters w ↦ rw (ne_eqb _ _ w.if-moves.true, sym w.enters.ensures ∙ w.if-enters.false)
      | else-moves-via-else-moves w ↦ rw (eq-eqb _ _ w.if-moves.false)
    ]) in
    sym (fit_skip a.cut.machine.numbers a.cut.bytes.now a.cut.axes.sizes.now a.cut.axes.rank (chosen_size a.cut.axes.strides.now a.chosen) b n (omega arith) skips) ∙ c.loop-i.invariant

pub returns : goal.returns
returns c =
    let a = c.args in
    let b : List ℕ = c.loop-i.blocks in
    let from : ℕ → List ℕ = λ n. fit_from a.cut.machine.numbers a.cut.bytes.now a.cut.axes.sizes.now a.cut.axes.rank (chosen_size a.cut.axes.strides.now a.chosen) n b in
    let e : c.loop-i.i ≡ 0 = omega arith in
    sym (ap from e ∙ fit_none a.cut.machine.numbers a.cut.bytes.now a.cut.axes.sizes.now a.cut.axes.rank (chosen_size a.cut.axes.strides.now a.chosen) b) ∙ c.loop-i.invariant
