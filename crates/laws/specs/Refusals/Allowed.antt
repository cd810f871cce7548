-- That a machine record is allowed has one proof: a line is a power of two in one way. Assumes nothing.
use Rattle.std.specs.Prelude.{◌≡◌, ℕ, suc, ◌^◌, ◌≤◌, ◌<◌}
use Rattle.std.proofs.Common.{sym, ◌∙◌, ⊎_elim, arith, pow_mono}
use Rattle.std.proofs.Math.Nat.{ℕ_set}
use mathlib.Core.Path.{Σ_path}
use mathlib.Core.HLevel.{is_prop→PathP}
use native.Mathlib.Bridge.{le_prop}
use native.Mathlib.Nat.{pow-suc}
use Rattle.strided.specs.Machine.{Allowed}
use Rattle.strided.specs.declared.Machine.{Machine}
use Rattle.laws.specs.Cut.Ranges.{le_or_lt}

-- a greater power of two is another
pow_less : (j k : ℕ) → j < k → 2 ^ j < 2 ^ k
pow_less j k h =
    let m : 2 ^ suc j ≤ 2 ^ k = pow_mono {i = suc j} {j = k} (omega arith) in
    let p : 1 ≤ 2 ^ j = pow_mono {i = 0} {j = j} (omega arith) in
    omega (arith, pow-suc 2 j)

pow_same : (j k : ℕ) → 2 ^ j ≡ 2 ^ k → j ≡ k
pow_same j k e = ⊎_elim
    (λ (h : j ≤ k). ⊎_elim (λ (g : k ≤ j). omega arith) (λ (g : j < k). absurd (omega (arith, pow_less j k g, e))) (le_or_lt k j))
    (λ (h : k < j). absurd (omega (arith, pow_less k j h, e)))
    (le_or_lt j k)

power-prop : (n : ℕ) → IsProp ((k : ℕ) × (n ≡ 2 ^ k))
power-prop n x y =
    let e : x.0 ≡ y.0 = pow_same x.0 y.0 (sym x.1 ∙ y.1) in
    Σ_path e (is_prop→PathP (λ i. n ≡ 2 ^ e i) (λ i. ℕ_set n (2 ^ e i)) x.1 y.1)

pub Allowed-prop : (mc : Machine) → IsProp (Allowed mc)
Allowed-prop mc = hlevel (power-prop, le_prop, ℕ_set)
