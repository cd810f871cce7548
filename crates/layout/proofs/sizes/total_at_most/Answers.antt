-- `layout::sizes::total_at_most` meets its contract. The invariant: the product of the first i extents. Assumes nothing.
use Rattle.std.proofs.Common.{ap, sym, ◌∙◌, arith, ◌*◌, ◌≡◌, ◌<◌, ◌≤◌, ◌+◌, ◌^◌, get_or}
use Rattle.std.proofs.Math.ListN.{take}
use Rattle.strided.specs.Layout.{total}
use Rattle.layout.proofs.Totals.{total-next, total_past}
use Rattle.layout.proofs.sizes.total_at_most.Goals as goal
use Rattle.layout.proofs.sizes.total_at_most.Goals.{in_default-via-in-Some+else-x-limit, in_default-via-in_default}

pub loop-i-preserved : goal.loop-i-preserved
loop-i-preserved c =
    let e = c.in-Some.ensures in
    e.1 ∙ ap (λ n. n * get_or c.args.extents.now c.loop-i.i 0) c.loop-i.invariant ∙ sym (total-next c.args.extents.now c.loop-i.i c.loop-i-test.true)

pub returns-in_default : goal.returns-in_default
returns-in_default c =
    let es = c.args.extents.now in
    let i = c.loop-i.i in
    let next : total (take (i + 1) es) ≡ c.loop-i.t * get_or es i 0 = total-next es i c.loop-i-test.true ∙ ap (λ n. n * get_or es i 0) (sym c.loop-i.invariant) in
    let above : c.args.limit < total (take (i + 1) es) =
    elim c.in_default.branch [
      | in_default-via-in-Some+else-x-limit w ↦ let e = w.in-Some.ensures in omega (arith, next, e.1)
      | in_default-via-in_default w ↦ let q : 2 ^ 64 ≤ c.loop-i.t * get_or es i 0 = omega (arith, w.in_default.ensures) in omega (arith, next, q)
    ] in
    c.has_zero.ensures ∙ total_past es (i + 1) c.args.limit above
