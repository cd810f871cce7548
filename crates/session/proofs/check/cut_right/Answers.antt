-- `session::check::cut_right` meets its contract. Assumes nothing.
use mathlib.Core.Path.{◌≡◌, sym, ap, ◌∙◌, subst}
use mathlib.Core.Bool.{Bool, true, cond}
use lib.Dec.{leb}
use lib.ListN.{length, take}
use Rattle.strided.specs.Layout.{total}
use Rattle.strided.specs.Plan.{cut_blocks}
use Rattle.session.specs.Made.{Cuttable, blocks_in, numbers_of, purpose_in}
use Rattle.session.proofs.Holding.{decides_for, decides_as, decides_is, decides_nats, blocks_long, cuttable_of, laid_as}
use Rattle.session.proofs.check.cut_right.Goals as goal
use Rattle.session.proofs.check.cut_right.Goals.{After-cut_kept_into}

pub returns-then-small : goal.returns-then-small
returns-then-small c =
    let i = c.session.inside in
    let n = i.numbers in
    let q = c.laid-laid.ensures in
    let v = sym c.session.view_is in
    let small : leb (total (take n.rank i.extents.now)) 1024 ≡ true =
    sym (λ j. leb (total (take ((q.numbers ∙ ap numbers_of v) j).rank ((q.extents ∙ ap (λ s. s.extents) v) j))) 1024) ∙ sym c.small.ensures ∙ c.if-small.true in
    let is : i.plan_extents.now ≡ blocks_in n i.extents.now i.sizes.now i.plan_extents.now i.plan_strides.now =
    sym (ap (λ (t : Bool). cond t i.plan_extents.now (cut_blocks n.machine (take n.operands i.sizes.now) i.plan_extents.now i.plan_strides.now n.plan_rank (purpose_in n))) small) in
    decides_for (λ s. s.plan.blocks ≡ blocks_in (numbers_of s) s.extents s.sizes s.plan.extents s.plan.strides) c.session.view_is
    (decides_as (decides_is c.same.ensures (decides_nats i.plan_extents.now i.blocks.now)) (λ e. sym e ∙ is) (λ e. is ∙ sym e))

pub cut_kept_into-requires : goal.cut_kept_into-requires
cut_kept_into-requires c =
    let i = c.session.inside in
    let q = c.laid-laid.ensures in
    let cut : Cuttable i.numbers i.extents.now i.sizes.now i.plan_extents.now i.plan_strides.now =
    subst (λ s. Cuttable (numbers_of s) s.extents s.sizes s.plan.extents s.plan.strides) (sym c.session.view_is) (cuttable_of c.args.right.session.now c.args.right.right c.requires) in
    let v = sym c.session.view_is in
    record {
      cuttable = laid_as (λ n E Z S. Cuttable n E Z i.plan_extents.now i.plan_strides.now) (sym (q.numbers ∙ ap numbers_of v)) (sym (q.extents ∙ ap (λ s. s.extents) v)) (sym (q.sizes ∙ ap (λ s. s.sizes) v)) (sym (q.strides ∙ ap (λ s. s.strides) v)) cut;
      large = sym c.small.ensures ∙ c.if-small.false;
    }

-- the fresh blocks
fresh : (c : After-cut_kept_into) → let i = c.session.inside in c.cut_kept_into.new.blocks ≡ blocks_in i.numbers i.extents.now i.sizes.now i.plan_extents.now i.plan_strides.now
fresh c =
    let i = c.session.inside in
    let q = c.laid-laid.ensures in
    let v = sym c.session.view_is in
    c.cut_kept_into.ensures ∙ (λ j. blocks_in ((q.numbers ∙ ap numbers_of v) j) ((q.extents ∙ ap (λ s. s.extents) v) j) ((q.sizes ∙ ap (λ s. s.sizes) v) j) i.plan_extents.now i.plan_strides.now)

places : (c : After-cut_kept_into) → length c.cut_kept_into.new.blocks ≡ 64
places c =
    let i = c.session.inside in
    ap length (fresh c) ∙ blocks_long i.numbers i.extents.now i.sizes.now i.plan_extents.now i.plan_strides.now ∙ c.session.invariant.plan_extents

pub returns : goal.returns
returns c =
    let i = c.session.inside in
    let is = fresh (goal.at.returns c).After-cut_kept_into in
    decides_for (λ s. s.plan.blocks ≡ blocks_in (numbers_of s) s.extents s.sizes s.plan.extents s.plan.strides) c.session.view_is
    (decides_as (decides_is c.same-2.ensures (decides_nats c.cut_kept_into.new.blocks i.blocks.now)) (λ e. sym e ∙ is) (λ e. is ∙ sym e))
