-- A CELL BETWEEN THE EXTREMES adds to the sum and is counted, and changes nothing else. Assumes nothing.
use Rattle.std.specs.Prelude.{◌≡◌, true, ℕ, ◌+◌, Float}
use Rattle.std.proofs.Common.{sym, ◌∙◌, arith}
use Rattle.std.specs.Float.Ieee.{le}
use Rattle.laws.specs.Base.Tests.{and_both}
use Rattle.summary.specs.declared.cell.Summary.{Summary}
use Rattle.summary.specs.Sums.{with_sum, lesser, greater, with_cell}
use Rattle.summary.specs.Parts.{between, adds_only, grown}
use Rattle.summary.proofs.Steps.{at-number}
use Rattle.summary.specs.Ordered.{le_not_lt, le_number}

module _ (s : Summary) (x : Float) (h : adds_only s x ≡ true) where
  pub quiet_cell : with_cell s x ≡ grown s 1 (with_sum s.sum x)
  quiet_cell =
      let e = and_both s.extremes (between s.least x s.greatest) h in
      let p = and_both (le s.least x) (le x s.greatest) e.1 in
      let l : lesser x s.least ≡ s.least = rw (le_not_lt s.least x p.0) in
      let g : greater x s.greatest ≡ s.greatest = rw (le_not_lt x s.greatest p.1) in
      let b : true ≡ s.extremes = sym e.0 in
      at-number s x true (le_number s.least x p.0) e.0
      ∙ (λ i. record { sum = with_sum s.sum x; least = l i; greatest = g i; count = s.count + 1; nans = s.nans; extremes = b i })

-- one more behind k such cells
pub quiet_next : (s : Summary) (k : ℕ) (sum x : Float) → adds_only s x ≡ true → with_cell (grown s k sum) x ≡ grown s (k + 1) (with_sum sum x)
quiet_next s k sum x h =
    quiet_cell (grown s k sum) x h
    ∙ (let a : s.count + k + 1 ≡ s.count + (k + 1) = omega arith in
    λ i. record { sum = with_sum sum x; least = s.least; greatest = s.greatest; count = a i; nans = s.nans; extremes = s.extremes })

pub quiet_none : (s : Summary) → s ≡ grown s 0 s.sum
quiet_none s =
    let a : s.count ≡ s.count + 0 = omega arith in
    λ i. record { sum = s.sum; least = s.least; greatest = s.greatest; count = a i; nans = s.nans; extremes = s.extremes }
