-- `session::check::row_right` meets its contract. Assumes nothing.
use mathlib.Core.Path.{◌≡◌, sym, ap, ◌∙◌}
use Prim.Native.Nat.{ℕ}
use native.Mathlib.Omega.{arith}
use lib.Bits.{bit_xor}
use lib.Dec.{eqb}
use lib.ListN.{get_or}
use Rattle.std.proofs.Common.{rules}
use Rattle.strided.specs.Step.{blank}
use Rattle.session.proofs.Comparing.{xor_none, nats_over}
use Rattle.session.proofs.Holding.{rest_is}
use Rattle.session.proofs.check.row_right.Goals as goal

pub returns : goal.returns
returns c =
    let a = c.args.ranks.now in
    let b = c.args.row.now in
    let q = c.requires in
    nats_over a b c.alike-told.ensures (omega (arith, q.rank.0, q.row.1)) (q.row.1 ∙ sym q.row.0.long)
    (λ i x h p. let is : x ≡ bit_xor (get_or a i 0) (get_or b i 0) = search (rules, p) in ap (λ (y : ℕ). eqb y 0) is ∙ xor_none (get_or a i 0) (get_or b i 0))
    q.rank.1 (c.all_zero-rest.ensures ∙ ap blank (rest_is c.args.rank a))
