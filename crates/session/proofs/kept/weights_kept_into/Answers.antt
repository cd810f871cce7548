-- `session::kept::weights_kept_into` meets its contract. Assumes nothing.
use mathlib.Core.Path.{◌≡◌, sym, ap, ◌∙◌}
use native.Mathlib.Omega.{arith}
use lib.ListN.{length}
use lib.Seq.{length-take-le}
use Rattle.strided.specs.Base.{padded}
use Rattle.strided.specs.Layout.{lead}
use Rattle.strided.specs.Weights.{weights}
use Rattle.session.specs.Made.{purpose_in}
use Rattle.session.specs.Tabled.{tabled_ranked}
use Rattle.session.proofs.Tabling.{table_of}
use Rattle.session.proofs.kept.weights_kept_into.Goals as goal

pub invariant_of-ranked : goal.invariant_of-ranked
invariant_of-ranked c =
    let a = c.args.laid.now in
    let l = c.layout.result in
    let q = c.layout.ensures in
    let rank : length c.layout.result.extents.now ≡ c.args.laid.now.numbers.rank =
    ap length q.extents ∙ length-take-le a.numbers.rank a.extents.now (let e = a.all.0 in let f = a.axes in omega (arith, e, f)) in
    record {
      moving = (tabled_ranked l.extents.now l.strides.now c.args.table.now l.operands
          (record { fits = l.fits; ranks = c.requires.table.is ∙ sym (λ i. table_of (q.strides i) (rank i) (q.operands i)) })).1;
    }

pub returns : goal.returns
returns c =
    let q = c.layout.ensures in
    let k : c.lead.result ≡ lead (purpose_in c.args.laid.now.numbers) = c.lead.ensures ∙ ap lead c.purpose.ensures in
    c.first_weights_into.ensures ∙ (λ i. padded 64 0 (weights (q.extents i) (q.operands i) (q.strides i) (k i)))
