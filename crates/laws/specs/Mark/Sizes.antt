-- Stride sizes in the place of strides: how far an index is by them, and the reach of the axes up to a size. The repeat mark's laws and the
-- contracts of crate mark speak of these. Assumes nothing.
use Rattle.std.specs.Prelude.{◌≡◌, cond, List, [], ◌∷◌, ℕ, ◌+◌, ◌-◌, ◌*◌, ◌<◌, ◌≤◌, leb, ℤ, pos, nat_abs, get_or}
use Rattle.std.proofs.Common.{ap, zero-le, mul-le-mul_right, arith}
use Rattle.strided.specs.Layout.{Within, reach}

-- the sum of index times stride size
abbrev pub far : List ℕ → List ℤ → ℕ
far [] ts = 0
far (x ∷ xs) [] = 0
far (x ∷ xs) (t ∷ ts) = x * nat_abs t + far xs ts

-- two different indices are equally far
pub record Near (es : List ℕ) (ts : List ℤ) : Type 0 where
  pub one : List ℕ
  pub other : List ℕ
  pub one_in : Within es one
  pub other_in : Within es other
  pub differ : one ≡ other → ⊥
  pub same : far one ts ≡ far other ts

pub far-reach : (es : List ℕ) (ts : List ℤ) (x : List ℕ) → Within es x → far x ts ≤ reach es ts
far-reach [] ts [] w = zero-le
far-reach [] ts (k ∷ x) w = absurd w
far-reach (e ∷ es) ts [] w = absurd w
far-reach (e ∷ es) [] (k ∷ x) w = zero-le
far-reach (e ∷ es) (t ∷ ts) (k ∷ x) w =
    let a : k * nat_abs t ≤ (e - 1) * nat_abs t = mul-le-mul_right (nat_abs t) (let g : k ≤ e - 1 = omega (arith, w.0) in g) in
    omega (arith, far-reach es ts x w.1)

-- two indices of the axes behind, and 0 before them
pub near-later : (e : ℕ) (es : List ℕ) (t : ℤ) (ts : List ℤ) → 0 < e → Near es ts → Near (e ∷ es) (t ∷ ts)
near-later e es t ts h s = record {
  one = 0 ∷ s.one;
  other = 0 ∷ s.other;
  one_in = (h, s.one_in);
  other_in = (h, s.other_in);
  differ = λ q. let g : s.one ≡ s.other = cc in s.differ g;
  same = ap (λ (n : ℕ). 0 * nat_abs t + n) s.same;
}

-- the size of axis i's stride
abbrev pub size_at : List ℤ → ℕ → ℕ
size_at ts i = nat_abs (get_or ts i (pos 0))

-- the reach of the axes whose stride size is at most b
abbrev pub reach_up_to : ℕ → List ℕ → List ℤ → ℕ
reach_up_to b [] ts = 0
reach_up_to b (e ∷ es) [] = 0
reach_up_to b (e ∷ es) (t ∷ ts) = cond (leb (nat_abs t) b) ((e - 1) * nat_abs t) 0 + reach_up_to b es ts

-- axis i's own test: the reach of all axes of no greater size, itself included, stays below extent times size
abbrev pub ClearAt : List ℕ → List ℤ → ℕ → Type 0
ClearAt es ts i = 1 < get_or es i 0 → reach_up_to (size_at ts i) es ts < (get_or es i 0 - 1) * size_at ts i + size_at ts i
