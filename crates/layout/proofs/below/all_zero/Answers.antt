-- `layout::below::all_zero` meets its contract. Assumes nothing.
use mathlib.Core.Path.{◌≡◌, ap, ◌∙◌}
use mathlib.Core.Bool.{◌&&◌}
use native.Mathlib.Omega.{arith}
use Prim.Native.Nat.{ℕ, ◌+◌, ◌-◌, ◌*◌, ◌/◌, ◌≤◌}
use lib.Dec.{eqb}
use lib.ListN.{length, take, drop}
use Rattle.std.specs.List.{list_all}
use Rattle.layout.proofs.Nearness.{row_next, rows_cover}
use Rattle.layout.proofs.below.all_zero.Goals as goal

pub loop-i-preserved : goal.loop-i-preserved
loop-i-preserved g c =
    let l = c.loop-i in
    let test = λ (x : g.row.N.Denot). eqb (g.N.Number.size x) 0 in
    let xs = c.args.numbers.now in
    let last = list_all test (drop (length xs - 32) xs) in
    let row : l.i * 32 + 32 - l.i * 32 ≡ 32 = omega arith in
    let next : l.i * 32 + 32 ≡ (l.i + 1) * 32 = omega arith in
    row_next test last xs (l.i * 32) 32 l.seen _ l.invariant
    (c.bits_of-seen-in-loop-i.ensures ∙ ap (λ (n : ℕ). list_all test (take n (drop (l.i * 32) xs))) row)
    ∙ ap (λ (n : ℕ). last && list_all test (take n xs)) next

pub returns : goal.returns
returns g c =
    let l = c.loop-i in
    let xs = c.args.numbers.now in
    let rows : (length xs - 1) / 32 ≤ l.i = c.loop-i-test.false in
    let all : length xs - 32 ≤ l.i * 32 = omega (arith, rows) in
    l.invariant ∙ rows_cover (λ (x : g.row.N.Denot). eqb (g.N.Number.size x) 0) xs (length xs - 32) (l.i * 32) all ∙ g.met.N.Number.none xs
