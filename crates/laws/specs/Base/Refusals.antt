-- What it means that none of an entry's rows applies, and what planning knows of a layout that it does not refuse.
-- Assumes nothing.
use Rattle.std.specs.Prelude.{◌≡◌, refl, Bool, true, false, cond, List, [], ◌∷◌, ℕ, ◌*◌, ◌≤◌, ltb, eqb, ℤ, length, None, Some}
use Rattle.std.proofs.Common.{arith, ltb-false, eqb-true}
use Rattle.std.proofs.lemmas.Bool.{not-false}
use Rattle.strided.specs.Refusals.{Row, refused_by, layout_rows, layout_refused}
use Rattle.strided.specs.declared.Purpose.{Purpose}
use Rattle.laws.specs.Base.Tests.{or_none}

unfoldable pub NoneApplies : List Row → Type 0
NoneApplies [] = Unit {0}
NoneApplies (r ∷ rs) = (r.applies ≡ false) × NoneApplies rs

pub none_applies : (rs : List Row) → refused_by rs ≡ None → NoneApplies rs
unfolding NoneApplies
none_applies [] h = tt
none_applies (r ∷ rs) h = go r.applies refl h (none_applies rs)
  where
    go : (b : Bool) → r.applies ≡ b → cond b (Some r.refusal) (refused_by rs) ≡ None → (refused_by rs ≡ None → NoneApplies rs) → (r.applies ≡ false) × NoneApplies rs
    go true e q f = let z : ◌≡◌ {A = ℕ} 0 1 = cc q in absurd (omega arith)
    go false e q f = (e, f q)

-- rows 1 to 3 of a layout
pub record Counts (es sizes : List ℕ) (ss : List ℤ) : Type 0 where
  pub axes : length es ≤ 64
  pub operands : length sizes ≤ 8
  pub strides : length ss ≡ length es * length sizes

pub layout_counts : (es sizes : List ℕ) (ss : List ℤ) (u : Purpose) → layout_refused es sizes ss u ≡ None → Counts es sizes ss
unfolding layout_refused NoneApplies
layout_counts es sizes ss u h =
    let a : NoneApplies (layout_rows es sizes ss u) = none_applies (layout_rows es sizes ss u) h in
    let m : ℕ = length sizes in
    record {
      axes = ltb-false 64 (length es) a.0;
      operands = ltb-false 8 m (or_none (eqb m 0) (ltb 8 m) a.1.0).1;
      strides = eqb-true (length ss) (length es * m) (not-false (eqb (length ss) (length es * m)) a.1.1.0);
    }
