-- The test by the least and the greatest offset holds exactly if some cell is outside; and a cell of `size` bytes lies within `len` bytes
-- exactly if its offset is below len / size.
-- Assumes nothing.
use Rattle.std.specs.Prelude.{◌≡◌, ◌↔◌, Bool, ◌&&◌, List, ℕ, ◌+◌, ◌-◌, ◌*◌, ◌/◌, ◌≤◌, ◌<◌, ℤ, negsuc, ◌+ℤ◌, ◌-ℤ◌, length}
use Rattle.std.proofs.Math.Path.{refl, sym, ap}
use Rattle.std.proofs.Common.{◌∙◌, le-div_iff_mul-le, arith, ltb-true, lt-ltb}
use Rattle.std.proofs.Math.Bool.{true, false, not}
use Rattle.std.proofs.lemmas.Bool.{false≢true, not-false, not-true}
use Rattle.std.proofs.Math.IntN.{pos}
use Rattle.strided.specs.Layout.{Within, has_zero, NoZero, dot, reach, reach_down}
use Rattle.laws.specs.Base.Tests.{and_both, both_and}
use Rattle.laws.specs.Base.Layouts.{within-total, total_nozero}
use Rattle.laws.specs.Refusals.Zeros.{no_zero_of, no_zero_test}
use Rattle.laws.specs.Walk.Row9.{below_of, below-reach, offset_is, high_is, at_least, at-greatest}
use Rattle.span.specs.Span.{in_cells, Outside, outside}

-- between two cells there are cells
between : (z : ℤ) (n m k : ℕ) → in_cells n z ≡ true → in_cells n (z +ℤ pos m) ≡ true → k ≤ m → in_cells n (z +ℤ pos k) ≡ true
between (pos a) n m k f g h = lt-ltb (a + k) n (let q : a + k < n = omega (arith, ltb-true (a + m) n g) in q)
between (negsuc a) n m k f g h = absurd (false≢true f)

module _ (es : List ℕ) (ts : List ℤ) (z : ℤ) (n : ℕ) (l : length ts ≡ length es) where
  least : ℤ
  least = z -ℤ pos (reach_down es ts)

  greatest : ℤ
  greatest = z +ℤ pos (reach es ts - reach_down es ts)

  -- where the test says so, the least or the greatest offset is outside
  pub test_outside : outside es ts z n ≡ true → Outside es ts z n
  unfolding outside least greatest
  test_outside e =
      let p = and_both (not (has_zero es)) (not (in_cells n least && in_cells n greatest)) e in
      let h : NoZero es = no_zero_of es (not-true (has_zero es) p.0) in
      go h (in_cells n least) refl (in_cells n greatest) refl (not-true (in_cells n least && in_cells n greatest) p.1)
    where
      go : NoZero es → (a : Bool) → in_cells n least ≡ a → (b : Bool) → in_cells n greatest ≡ b → (in_cells n least && in_cells n greatest) ≡ false → Outside es ts z n
      go h false p b q e = let x = at_least es ts z l h in record { index = x.0; inside = x.1; outside = ap (in_cells n) x.2 ∙ p }
      go h true p false q e = let x = at-greatest es ts z l h in record { index = x.0; inside = x.1; outside = ap (in_cells n) x.2 ∙ q }
      go h true p true q e = absurd (false≢true (sym e ∙ both_and (in_cells n least) (in_cells n greatest) p q))

  -- where no extent is 0 and the test says no, every offset is that of a cell
  pub all-cells : NoZero es → outside es ts z n ≡ false → (x : List ℕ) → Within es x → in_cells n (z +ℤ dot x ts) ≡ true
  unfolding outside least greatest
  all-cells h e x w =
      let t : not (in_cells n least && in_cells n greatest) ≡ false = sym (ap (λ (b : Bool). not b && not (in_cells n least && in_cells n greatest)) (no_zero_test es h)) ∙ e in
      let p = and_both (in_cells n least) (in_cells n greatest) (not-false _ t) in
      let b : in_cells n (least +ℤ pos (reach es ts)) ≡ true = ap (in_cells n) (high_is es ts z l) ∙ p.1 in
      ap (in_cells n) (offset_is es ts z l x w) ∙ between least n (reach es ts) (below_of es ts x) p.0 b (below-reach es ts x w)

  pub outside_test : Outside es ts z n → outside es ts z n ≡ true
  outside_test o = go (outside es ts z n) refl
    where
      go : (b : Bool) → outside es ts z n ≡ b → outside es ts z n ≡ true
      go true e = e
      go false e =
          let h : NoZero es = total_nozero es (within-total es o.index o.inside) in
          absurd (false≢true (sym o.outside ∙ all-cells h e o.index o.inside))

  -- THE TEST IS THE CLAIM
  pub outside_exact : (outside es ts z n ≡ true) ↔ Outside es ts z n
  outside_exact = (test_outside, outside_test)

-- a cell's last byte is within the buffer exactly if the cell is one of those that fit
pub cell_fits : (g size len : ℕ) → 0 < size → (g < len / size) ↔ ((g + 1) * size ≤ len)
cell_fits g size len h = (λ q. (le-div_iff_mul-le h).0 (let p : g + 1 ≤ len / size = omega arith in p), λ q. let p : g + 1 ≤ len / size = (le-div_iff_mul-le h).1 q in omega (arith, p))
