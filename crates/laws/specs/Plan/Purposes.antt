-- P AND F: the plans of one layout for the two purposes. What the fit makes of them where the same operand is chosen is in Fit/Plans; with other
-- than two operands they are equal, and so are they with no chosen operand.
-- Assumes nothing.
use Rattle.std.specs.Prelude.{◌≡◌, Bool, List, ℕ, ℤ, Ok, Err, Result}
use Rattle.std.proofs.Math.Path.{refl, ap₂}
use Rattle.std.proofs.Math.Bool.{true, false}
use Rattle.std.proofs.Common.{arith, ap}
use Rattle.std.proofs.Math.Dec.{eqb}
use Rattle.std.proofs.Math.ListN.{length}
use borrow.Author.Tests.{eqb-false, lt-leb}
use Rattle.strided.specs.Refusals.{refused_by, planning_rows, planning_refused, served_unless}
use Rattle.strided.specs.Order.{loop_order, fusing_order}
use Rattle.strided.specs.Fuse.{plan_axes}
use Rattle.strided.specs.Plan.{cut_blocks, plan_from, planned, the_plan}
use Rattle.strided.specs.declared.Refusal.{Refusal}
use Rattle.strided.specs.declared.Purpose.TheVariants.{Pointwise, PointwiseInto, Fold}
use Rattle.strided.specs.declared.Plan.{Plan}
use Rattle.strided.specs.declared.Machine.{Machine}
use Rattle.strided.specs.GoodFit.{GoodAnswers}
use Rattle.laws.specs.Fit.Plans.{plans_good}

module _ (mc : Machine) (es sizes : List ℕ) (ss : List ℤ) where
  -- with other than two operands nothing is fitted
  pub fit_alone : (c : ℕ) → (length sizes ≡ 2 → ⊥) → planned mc es sizes ss (PointwiseInto c) ≡ planned mc es sizes ss (Fold c)
  fit_alone c h = go (planned mc es sizes ss (PointwiseInto c)) (planned mc es sizes ss (Fold c)) (plans_good mc es sizes ss c)
    where
      go : (p f : Result Plan Refusal) → GoodAnswers mc es sizes c p f → p ≡ f
      go (Ok p) (Ok f) g = ap (λ (q : Plan). Ok q) (g.same (λ r. h r.two))
      go (Err r) (Err s) e = ap (λ (q : Refusal). Err q) e
      go (Ok p) (Err s) g = absurd g
      go (Err r) (Ok f) g = absurd g

  -- operand 0 is there wherever row 2 passes
  unchosen_refused : planning_refused mc es sizes ss Pointwise ≡ planning_refused mc es sizes ss (Fold 0)
  unfolding planning_refused
  unchosen_refused = go (eqb (length sizes) 0) refl
    where
      go : (b : Bool) → eqb (length sizes) 0 ≡ b → refused_by (planning_rows mc es sizes ss Pointwise) ≡ refused_by (planning_rows mc es sizes ss (Fold 0))
      go true q = rw q
      go false q = let n : length sizes ≡ 0 → ⊥ = eqb-false (length sizes) 0 q in rw (lt-leb (length sizes) 0 (omega arith))

  from_unchosen : the_plan mc es sizes ss Pointwise ≡ the_plan mc es sizes ss (Fold 0)
  unfolding plan_from plan_axes fusing_order loop_order cut_blocks
  from_unchosen = refl

  -- with no chosen operand the lead is operand 0, and nothing is fitted
  pub fit_unchosen : planned mc es sizes ss Pointwise ≡ planned mc es sizes ss (Fold 0)
  unfolding planned
  fit_unchosen = ap₂ served_unless unchosen_refused from_unchosen
