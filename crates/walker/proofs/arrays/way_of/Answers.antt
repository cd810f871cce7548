-- `walker::arrays::way_of` meets its contract. Assumes nothing.
use mathlib.Core.Path.{refl, sym, ap, ◌∙◌, subst}
use Prim.Native.Nat.{ℕ}
use lib.ListN.{get_or, take}
use Rattle.std.specs.Prelude.{Some}
use Rattle.layout.specs.Below.{FirstBelow}
use Rattle.walker.proofs.Leading.{along_cut, along_tiles}
use Rattle.walker.proofs.arrays.way_of.Goals as goal

pub returns-in-Some : goal.returns-in-Some
returns-in-Some c = record { along = λ y e. let q = c.way_on.ensures y e in along_cut c.in-Some.ensures q.0 q.1 q.2 q.3 }

pub returns : goal.returns
returns c =
    let a = c.args in
    record {
      along = λ y e.
          let q = c.way_on-2.ensures y e in
          along_tiles c.in_default.ensures refl refl
          (subst (λ (n : ℕ). FirstBelow (take a.rank a.w.now) (take a.rank a.e.now) (Some n)) (sym q.1) c.in_ok-tiled.ensures) q.0
          (q.2 ∙ ap (λ (n : ℕ). get_or a.w.now n 0) (sym q.1));
    }
