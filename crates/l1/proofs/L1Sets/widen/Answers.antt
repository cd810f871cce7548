-- `l1::L1Sets::widen` meets its contract. The invariant: the load fits at block `lo` and at none above `hi`; whatever block axis i was tried
-- with, the other blocks stay. The load grows with the block, so that one trial decides for all on its side. Assumes nothing.
use native.Mathlib.Omega.{arith}
use mathlib.Core.Path.{◌≡◌, refl, sym, ap, ◌∙◌}
use mathlib.Core.List.{List}
use Prim.Native.Nat.{ℕ, ◌-◌, ◌/◌, min}
use lib.Dec.{leb}
use lib.ListN.{set}
use lib.Seq.{set-set}
use borrow.Author.Tests.{le-leb, lt-leb}
use Rattle.laws.specs.Cut.Ranges.{greatest_is}
use Rattle.l1.specs.Live.{top, load_by, most_by}
use Rattle.l1.proofs.Loads.{load_by_mono}
use Rattle.l1.proofs.L1Sets.widen.Goals as goal

pub loop-lo-init : goal.loop-lo-init
loop-lo-init c = (omega arith, omega arith, omega arith, c.requires.1.1.1, λ x a b. absurd (omega arith), λ x. refl)

pub loop-lo-preserved-then-set_block-live : goal.loop-lo-preserved-then-set_block-live
loop-lo-preserved-then-set_block-live c =
    -- the load that was tried, and the other blocks
    let tried : let a = c.args in (c.set_block.result ≡ min (load_by a.self (set a.blocks.now a.i (c.loop-lo.hi - (c.loop-lo.hi - c.loop-lo.lo) / 2))) top) × ((x : ℕ) → set c.set_block.new.blocks a.i x ≡ set a.blocks.now a.i x) = let a = c.args in
    let mid : ℕ = c.loop-lo.hi - (c.loop-lo.hi - c.loop-lo.lo) / 2 in (
      c.set_block.ensures.load ∙ ap (λ (b : List ℕ). min (load_by a.self b) top) (c.loop-lo.invariant.5 mid),
      λ x. ap (λ (b : List ℕ). set b a.i x) c.set_block.ensures.blocks ∙ set-set c.loop-lo.blocks a.i mid x ∙ c.loop-lo.invariant.5 x,
    ) in
    let t = tried in
    let l = c.loop-lo in
    (omega arith, omega arith, l.invariant.2, omega (arith, t.0, c.if-set_block-live.true), l.invariant.4, t.1)

pub loop-lo-preserved : goal.loop-lo-preserved
loop-lo-preserved c =
    let tried : let a = c.args in (c.set_block.result ≡ min (load_by a.self (set a.blocks.now a.i (c.loop-lo.hi - (c.loop-lo.hi - c.loop-lo.lo) / 2))) top) × ((x : ℕ) → set c.set_block.new.blocks a.i x ≡ set a.blocks.now a.i x) = let a = c.args in
    let mid : ℕ = c.loop-lo.hi - (c.loop-lo.hi - c.loop-lo.lo) / 2 in (
      c.set_block.ensures.load ∙ ap (λ (b : List ℕ). min (load_by a.self b) top) (c.loop-lo.invariant.5 mid),
      λ x. ap (λ (b : List ℕ). set b a.i x) c.set_block.ensures.blocks ∙ set-set c.loop-lo.blocks a.i mid x ∙ c.loop-lo.invariant.5 x,
    ) in
    let t = tried in
    let a = c.args in
    let mid : ℕ = c.loop-lo.hi - (c.loop-lo.hi - c.loop-lo.lo) / 2 in (
      c.loop-lo.invariant.0,
      omega arith,
      omega arith,
      c.loop-lo.invariant.3,
      λ x h k. omega (arith, t.0, c.if-set_block-live.false, load_by_mono a.self a.blocks.now a.i mid x (omega arith)),
      t.1,
    )

pub returns : goal.returns
unfolding most_by
returns c = let a = c.args in
    let l = c.loop-lo in
    let e : l.lo ≡ l.hi = omega arith in
    l.invariant.5 l.lo
    ∙ ap (set a.blocks.now a.i)
    (sym (greatest_is (λ x. leb (load_by a.self (set a.blocks.now a.i x)) a.live) a.whole l.lo
    (omega arith) l.invariant.0 (le-leb _ _ l.invariant.3) (λ x h k. lt-leb _ _ (l.invariant.4 x (omega arith) k))))
