-- `layout::below::first_below` meets its contract. Assumes nothing.
use Prim.Native.Nat.{◌≤◌, ◌<◌}
use borrow.Author.Rules.{rules}
use borrow.Author.Tests.{tests}
use Rattle.std.proofs.lemmas.Iterator.{YieldsList-from_slice, YieldsList-from_zip, IsFirst-from_position}
use Rattle.layout.proofs.Ranges.{first_of_zip}
use Rattle.layout.proofs.below.first_below.Goals as goal

pub returns : goal.returns
returns c =
    let a = c.args in
    first_of_zip a.numbers.now a.bounds.now c.requires _
    (IsFirst-from_position c.position.new.self _ _ (λ p. p.0 < p.1) (λ p. p.1 ≤ p.0) c.position.ensures.ran (YieldsList-from_zip (YieldsList-from_slice a.numbers.now cc) (YieldsList-from_slice a.bounds.now cc)) (λ x q k. search (rules, tests)) (λ x q k. search (rules, tests)))
