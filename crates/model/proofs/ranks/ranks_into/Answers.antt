-- `model::ranks::ranks_into` meets its contract: each way out rewrites by the test that led there. Assumes nothing.
use mathlib.Core.Path.{◌≡◌, sym, ap, ap₂, ◌∙◌}
use mathlib.Core.List.{List, [], ◌++◌}
use Prim.Native.Nat.{ℕ, ◌-◌, ◌≤◌}
use native.Mathlib.Omega.{arith}
use lib.ListN.{length, take, drop, replicate, length-replicate}
use lib.Seq.{length-take-le}
use borrow.Author.Tests.{eq-eqb, ne_eqb}
use Rattle.std.proofs.Common.{rules}
use Rattle.strided.specs.Base.{padded}
use Rattle.laws.specs.Base.Filling.{fill_none, drop_behind, padded_is}
use Rattle.model.proofs.ranks.ranks_into.Goals as goal

-- n ones, and the zeros behind them
ones_padded : (n : ℕ) (os zs : List ℕ) → n ≤ 64 → os ≡ replicate n 1 → zs ≡ replicate 64 0 → os ++ drop n zs ≡ padded 64 0 (replicate n 1)
ones_padded n os zs h e z =
    let long : length (replicate {A = ℕ} n 1) ≡ n = length-replicate {A = ℕ} n 1 in
    let rest : drop n zs ≡ padded (64 - n) 0 [] = ap (drop n) (z ∙ fill_none 64 0) ∙ drop_behind 64 n 0 [] (omega arith) in
    ap₂ (λ (a b : List ℕ). a ++ b) e (rest ∙ ap (λ (k : ℕ). padded (64 - k) 0 []) (sym long))
    ∙ sym (padded_is 64 0 (replicate n 1) (omega (arith, long)))

pub returns-then-size-eq0 : goal.returns-then-size-eq0
returns-then-size-eq0 c =
    let n : ℕ = length c.args.row.strides.now in
    let long : length (take n c.args.order.now) ≡ n = length-take-le n c.args.order.now (omega (arith, c.args.row.few, c.told-order)) in
    let ones : c.fill.new.self ≡ replicate n 1 = c.fill.ensures.after (λ y h. search rules) ∙ ap (λ (k : ℕ). replicate k 1) long in
    rw (eq-eqb _ _ c.if-size-eq0.true) (ones_padded n _ _ c.args.row.few ones c.requires)

pub returns-else-size-eq0 : goal.returns-else-size-eq0
returns-else-size-eq0 c = rw (ne_eqb _ _ c.if-size-eq0.false) c.index_order_into.ensures
