-- Laws of products and sums that stop at a cap, and of the reach made with them. Assumes nothing.
use mathlib.Core.Path.{◌≡◌, ap, ap₂}
use mathlib.Core.List.{List, [], ◌∷◌}
use Prim.Native.Nat.{ℕ, ◌+◌, ◌-◌, ◌*◌, ◌^◌, ◌≤◌, ◌<◌, min}
use native.Mathlib.Omega.{arith}
use lib.IntN.{ℤ, pos, nat_abs}
use lib.ListN.{length, get_or}
use lib.Signed.{mag}
use mir.Syntax.{w64}
use mir.Val.{to_z, of_z}
use mir.Facts.{to_z-of_z}
use Rattle.strided.specs.Layout.{reach}

-- ---- the reach, summed from axis 0 up

-- what the sum still lacks of the whole reach is that of the axes that are left
abbrev pub Summed : ℕ → ℕ → List ℕ → List ℤ → Type 0
Summed whole sum es ts = (sum ≤ 2 ^ 63) × (length ts ≡ length es) × (min (sum + reach es ts) (2 ^ 63) ≡ min whole (2 ^ 63))

-- a turn: n is the stride's size, l the extent less 1, w their product and a the new sum
pub summed_turn : (whole sum e : ℕ) (t : ℤ) (es : List ℕ) (ts : List ℤ) (n l w a : ℕ) → Summed whole sum (e ∷ es) (t ∷ ts)
    → n ≡ nat_abs t → l ≡ e - 1 → w ≡ min (l * n) (2 ^ 63) → a ≡ min (sum + w) (2 ^ 63) → Summed whole a es ts
summed_turn whole sum e t es ts n l w a s p q r u =
    let m : l * n ≡ (e - 1) * nat_abs t = ap₂ (λ (x y : ℕ). x * y) q p in
    (omega arith, omega (arith, s.1), omega (arith, s.0, s.2, m))

pub summed_end : (whole sum : ℕ) (es : List ℕ) (ts : List ℤ) → es ≡ [] → Summed whole sum es ts → sum ≡ min whole (2 ^ 63)
summed_end whole sum es ts e s =
    let z : reach es ts ≡ 0 = ap (λ (l : List ℕ). reach l ts) e in
    omega (arith, s.0, s.2, z)

-- an element of a list of signed numbers, read back from its local's bits
pub elem_read : (l : List ℤ) (i : ℕ) → mag (get_or l i (pos 0)) < 2 ^ 63 → to_z w64 (of_z w64 (get_or l i (pos 0))) ≡ get_or l i (pos 0)
elem_read l i h = to_z-of_z {w = w64} (record { sfits = h })
