-- `writing::plan::put_plan` meets its contract: the K line, the A lines and the rest in a row are the output.
-- Assumes nothing.
use mathlib.Core.Path.{◌≡◌, ap, ◌∙◌}
use mathlib.Core.List.{[], ◌∷◌}
use Rattle.strided.specs.Text.{line_of, rank_line}
use Rattle.strided.specs.declared.Plan.{Plan}
use Rattle.writing.specs.Line.{fields_of}
use Rattle.writing.proofs.Lines.{rank_is}
use Rattle.writing.proofs.Printing.{head_may, head_full, axes_may, axes_full, rest_may, rest_goes}
use Rattle.writing.proofs.plan.put_plan.Goals as goal

pub take-requires : goal.take-requires
take-requires g c =
    let k = g.S.Sink in
    let line : line_of 75 (fields_of (c.plan.inside.rank ∷ []) []) ≡ rank_line c.args.printed.plan.now.rank = rank_is _ ∙ ap (λ (p : Plan). rank_line p.rank) c.plan.view_is in
    head_may k.May k.Took k.Full g.met.S.Sink.laws _ _ _ c.requires _ line

pub returns-in_err-head : goal.returns-in_err-head
returns-in_err-head g c =
    let k = g.S.Sink in
    let line : line_of 75 (fields_of (c.plan.inside.rank ∷ []) []) ≡ rank_line c.args.printed.plan.now.rank = rank_is _ ∙ ap (λ (p : Plan). rank_line p.rank) c.plan.view_is in
    rw c.from_residual.ensures (head_full k.May k.Took k.Full g.met.S.Sink.laws _ _ _ c.requires _ line c.in_err-head.ensures)

pub put_axes-requires : goal.put_axes-requires
put_axes-requires g c =
    let k = g.S.Sink in
    let line : line_of 75 (fields_of (c.plan.inside.rank ∷ []) []) ≡ rank_line c.args.printed.plan.now.rank = rank_is _ ∙ ap (λ (p : Plan). rank_line p.rank) c.plan.view_is in
    axes_may k.May k.Took k.Full g.met.S.Sink.laws _ _ _ c.requires _ line _ _ c.in_ok-head.ensures

pub returns-in_err-axes : goal.returns-in_err-axes
returns-in_err-axes g c =
    let k = g.S.Sink in
    let line : line_of 75 (fields_of (c.plan.inside.rank ∷ []) []) ≡ rank_line c.args.printed.plan.now.rank = rank_is _ ∙ ap (λ (p : Plan). rank_line p.rank) c.plan.view_is in
    rw c.from_residual-in_err-axes.ensures
    (axes_full k.May k.Took k.Full g.met.S.Sink.laws _ _ _ c.requires _ line _ _ c.in_ok-head.ensures
    c.in_err-axes.ensures)

pub put_walk-requires : goal.put_walk-requires
put_walk-requires g c =
    let k = g.S.Sink in
    let line : line_of 75 (fields_of (c.plan.inside.rank ∷ []) []) ≡ rank_line c.args.printed.plan.now.rank = rank_is _ ∙ ap (λ (p : Plan). rank_line p.rank) c.plan.view_is in
    rest_may k.May k.Took k.Full g.met.S.Sink.laws _ _ _ c.requires _ line _ _ c.in_ok-head.ensures _ _
    c.in_ok-axes.ensures

pub returns : goal.returns
returns g c =
    let k = g.S.Sink in
    let line : line_of 75 (fields_of (c.plan.inside.rank ∷ []) []) ≡ rank_line c.args.printed.plan.now.rank = rank_is _ ∙ ap (λ (p : Plan). rank_line p.rank) c.plan.view_is in
    rest_goes k.May k.Took k.Full g.met.S.Sink.laws _ _ _ c.requires _ line _ _ c.in_ok-head.ensures _ _
    c.in_ok-axes.ensures _ _ c.put_walk.ensures
