-- `model::fit_for` meets its contract: each purpose by itself. Row 4 says that the chosen operand of a copy is there, so it is one of two.
-- Assumes nothing.
use native.Mathlib.Omega.{arith}
use mathlib.Core.Path.{◌≡◌, subst}
use mathlib.Core.Bool.{false}
use Prim.Native.Nat.{ℕ, ◌<◌}
use lib.ListN.{length}
use borrow.Author.Tests.{leb-false, eq-eqb, ne_eqb}
use Rattle.std.proofs.Common.{⊎_elim}
use Rattle.strided.specs.Layout.{chosen}
use Rattle.strided.specs.Refusals.{missing}
use Rattle.strided.specs.declared.Purpose.{Purpose}
use Rattle.strided.specs.declared.Purpose.TheVariants.{PointwiseInto}
use Rattle.model.proofs.fit_for.Goals as goal

pub fit-requires : goal.fit-requires
fit-requires c =
    -- the purpose, where it names a destination
    let into : c.args.purpose ≡ PointwiseInto c.in-PointwiseInto.c = c.in-PointwiseInto.is in
    let a = c.args in
    let k : ℕ = c.in-PointwiseInto.c in
    let two : length a.cut.axes.sizes.now ≡ 2 = c.if-cut-eq2.true in
    let there : missing (length a.cut.axes.sizes.now) (chosen (PointwiseInto k)) ≡ false =
    subst (λ (v : Purpose). missing (length a.cut.axes.sizes.now) (chosen v) ≡ false) into c.requires in
    let below : k < length a.cut.axes.sizes.now = leb-false (length a.cut.axes.sizes.now) k there in (omega (arith, a.cut.axes.few), two)

pub returns-in-Pointwise : goal.returns-in-Pointwise
returns-in-Pointwise c = ⊎_elim (λ e. rw e) (λ e. rw e.1) c.in-Pointwise.is

pub returns-then-cut-eq2 : goal.returns-then-cut-eq2
returns-then-cut-eq2 c =
    let into : c.args.purpose ≡ PointwiseInto c.in-PointwiseInto.c = c.in-PointwiseInto.is in
    rw (into, eq-eqb _ _ c.if-cut-eq2.true) c.fit.ensures

pub returns-else-cut-eq2 : goal.returns-else-cut-eq2
returns-else-cut-eq2 c =
    let into : c.args.purpose ≡ PointwiseInto c.in-PointwiseInto.c = c.in-PointwiseInto.is in
    rw (into, ne_eqb _ _ c.if-cut-eq2.false)
