-- `session::check::ranks_right` meets its contract. Assumes nothing.
use mathlib.Core.Path.{◌≡◌, refl, sym, ap, ◌∙◌, subst}
use Prim.Native.Nat.{ℕ, ◌+◌, ◌-◌, ◌*◌, ◌≤◌, ◌<◌}
use native.Mathlib.Omega.{arith}
use native.Mathlib.Nat.{le_antisymm}
use mathlib.Core.Bool.{true}
use mathlib.Core.List.{List, []}
use lib.ListN.{length, get_or, take, drop, length-drop}
use lib.Seq.{length-take-le}
use Rattle.session.specs.Session.{same_nats}
use Rattle.session.specs.Made.{rows_of, ranks_in}
use Rattle.strided.specs.Step.{blank}
use Rattle.session.proofs.Holding.{decides_for, even_of, row_ends, rest_of, row_next, ranks_decide}
use Rattle.session.proofs.check.ranks_right.Goals as goal

-- a row of the ranks has its places
row_long : (R : List ℕ) (k : ℕ) → length R ≡ 512 → k < 8 → length (take (k * 64 + 64 - k * 64) (drop (k * 64) R)) ≡ 64
row_long R k e h =
    let d = length-drop (k * 64) R in
    let w : k * 64 + 64 - k * 64 ≡ 64 = omega arith in
    length-take-le (k * 64 + 64 - k * 64) (drop (k * 64) R) (omega (arith, d, e, h)) ∙ w

pub loop-k-init : goal.loop-k-init
loop-k-init c = (subst (λ s. s.operands ≤ 8) (sym c.session.view_is) c.args.ranked.right.right.few, c.session.invariant.ranks, omega arith, refl)

pub row_right-alike-requires : goal.row_right-alike-requires
row_right-alike-requires c =
    let l = c.loop-k in
    let t = c.loop-k-test.true in
    let f = l.invariant.0 in
    let r = c.args.ranked.right in
    let T = c.args.ranked.table.now in
    record {
      row = ((even_of r.session.now r.right c.args.ranked.ranks).rows l.k (omega (arith, f, t)), row_long c.session.inside.ranks.now l.k l.invariant.1 (omega (arith, f, t)));
      rank = subst (λ s. (s.rank ≤ 64) × (blank (drop s.rank (get_or T l.k [])) ≡ true)) (sym c.session.view_is)
          (r.right.axes, row_ends r.session.now r.right c.args.ranked.ranks l.k (subst (λ s. l.k < s.operands) c.session.view_is t));
    }

pub loop-k-preserved : goal.loop-k-preserved
loop-k-preserved c =
    let l = c.loop-k in
    let t = c.loop-k-test.true in
    let f = l.invariant.0 in
    (f, l.invariant.1, omega arith, row_next c.args.ranked.table.now c.session.inside.ranks.now (even_of c.args.ranked.right.session.now c.args.ranked.right.right c.args.ranked.ranks) l.invariant.1 l.k (omega (arith, f, t)) l.alike c.row_right-alike.result l.invariant.3 c.row_right-alike.ensures)

pub returns : goal.returns
returns c =
    let l = c.loop-k in
    let T = c.args.ranked.table.now in
    let R = c.session.inside.ranks.now in
    let m = c.session.inside.numbers.operands in
    let long = c.session.invariant.ranks in
    let e : l.k ≡ m = le_antisymm l.invariant.2 c.loop-k-test.false in
    decides_for (λ s. s.ranks ≡ ranks_in c.args.ranked.table.now s.operands) c.session.view_is
    (ranks_decide T R (even_of c.args.ranked.right.session.now c.args.ranked.right.right c.args.ranked.ranks) long m l.invariant.0
    (l.invariant.3 ∙ ap (λ (k : ℕ). same_nats (take (k * 64) R) (rows_of T k)) e)
    (c.all_zero-rest.ensures ∙ ap blank (rest_of 512 (m * 64) R long)))
