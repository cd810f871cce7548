-- `walk::answer_of` meets its contract: row 10. Assumes nothing.
use mathlib.Core.Bool.{Bool, true, false, not}
use mathlib.Core.Path.{◌≡◌, refl, sym, ap, subst}
use Rattle.std.specs.Prelude.{Ok}
use Rattle.strided.specs.declared.Plan.{Plan}
use Rattle.strided.specs.declared.Walk.{Walk}
use Rattle.walk.specs.Lent.{Taken, Answers}
use Rattle.walk.proofs.Stepping.{state_rejected, taken, ended_step}
use Rattle.walk.proofs.answer_of.Goals as goal

answered_ok : (p : Plan) (w : Walk) → Taken p w → Answers p w (Ok (not w.ended))
answered_ok p w k = go w.ended refl
  where
    go : (b : Bool) → w.ended ≡ b → Answers p w (Ok (not b))
    go true e = ended_step p w k e
    go false e = (k, e)

pub returns-then-reaches : goal.returns-then-reaches
returns-then-reaches c =
    let p = c.args.plan.now in
    let w = c.args.walk.now in
    let t = c.reaches.ensures in
    subst (λ (e : Bool). Answers p w (Ok (not e))) (sym (ap (λ (v : Walk). v.ended) c.walk.view_is))
    (answered_ok p w (taken p w t.plan_whole t.walk_whole.counters-all t.walk_whole.offsets_all t.told c.if-reaches.true))

pub returns : goal.returns
returns c =
    let t = c.reaches.ensures in
    state_rejected _ _ t.plan_whole t.walk_whole.counters-all t.walk_whole.offsets_all t.told c.if-reaches.false
