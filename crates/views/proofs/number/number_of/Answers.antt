-- `views::number::number_of` meets its contract: of the plan it asks extents and blocks alone. Assumes nothing.
use mathlib.Core.Path.{ap, ◌∙◌, sym, subst}
use Rattle.strided.specs.Step.{plan_cut_axes}
use Rattle.strided.specs.declared.Plan.{Plan}
use lib.ListN.{take}
use Rattle.views.specs.Number.{block_number}
use Rattle.views.specs.Tally.{Countable}
use Rattle.views.proofs.number.number_of.Goals as goal

pub number_of-requires : goal.number_of-requires
number_of-requires c =
    let k = subst (λ (p : Plan). Countable p c.args.c.now) (sym c.plan.view_is) c.requires in
    record { few = k.few; extents-all = k.extents-all; blocks_all = k.blocks_all; counters-all = k.counters-all; inside = k.inside; starts = k.starts; fits = k.fits }

pub returns : goal.returns
returns c =
    c.number_of.ensures ∙ ap (λ (p : Plan). block_number (plan_cut_axes p) (take p.rank c.args.c.now)) c.plan.view_is
