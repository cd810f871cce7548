-- `arrange::pick_into` meets its contract. The invariant: the first j elements are picked, and those behind
-- them stand as they stood. Assumes nothing.
use mathlib.Core.Path.{◌≡◌, sym, ap, ◌∙◌}
use mathlib.Core.List.{List}
use Prim.Native.Nat.{ℕ}
use native.Mathlib.Omega.{arith}
use lib.ListN.{length, get_or, take, set}
use lib.Seq.{length-take-le}
use Rattle.strided.specs.Base.{padded}
use Rattle.laws.specs.Base.Arrays.{blank-ℕ, padded-take}
use Rattle.arrange.proofs.Turns.{picked_turn, picked-over}
use Rattle.arrange.proofs.pick_into.Goals as goal

pub loop-j-init : goal.loop-j-init
loop-j-init g c =
    (omega arith, sym (padded-take blank-ℕ 64 (length (g.O.Order.names c.args.order)) c.args.out.now (omega arith) c.requires.out))

pub loop-j-preserved : goal.loop-j-preserved
loop-j-preserved g c =
    let o : List ℕ = g.O.Order.names c.args.order in
    -- what stood in the places that are counted
    let stood : length (take (length o) c.args.out.now) ≡ length o = length-take-le (length o) c.args.out.now (omega (arith, c.requires.few)) in (
      omega (arith, c.loop-j-test, c.len-j-end.ensures),
      ap (λ (a : ℕ). set c.loop-j.out c.loop-j.j (get_or c.args.xs.now a 0)) c.axis.ensures
          ∙ ap (λ (r : List ℕ). set r c.loop-j.j (get_or c.args.xs.now (get_or o c.loop-j.j 0) 0)) c.loop-j.invariant.1
          ∙ picked_turn o c.requires.few 0 c.args.xs.now (take (length o) c.args.out.now) c.loop-j.j stood (omega (arith, c.loop-j-test.true, c.len-j-end.ensures)),
    )

pub returns : goal.returns
returns g c =
    let o : List ℕ = g.O.Order.names c.args.order in
    let stood : length (take (length o) c.args.out.now) ≡ length o = length-take-le (length o) c.args.out.now (omega (arith, c.requires.few)) in
    c.loop-j.invariant.1
    ∙ ap (padded 64 0) (picked-over o c.requires.few 0 c.args.xs.now (take (length o) c.args.out.now) c.loop-j.j stood (omega (arith, c.loop-j-test.false, c.len-j-end.ensures)))
