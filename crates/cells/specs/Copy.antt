-- CELLS COPIED between two byte buffers. A cell is told by the places of its first byte, in the destination and in the source. The copy of
-- a list of cells as a fold that computes; and its meaning with no order in it. Ask 3: "Afterwards each destination cell holds the source
-- cell of its index, and every byte outside destination cells is as before."
-- Assumes nothing.
use Rattle.std.specs.Prelude.{◌≡◌, ◌⊎◌, ◌↔◌, List, [], ◌∷◌, ℕ, zero, suc, ◌+◌, ◌≤◌, ◌<◌, length, get_or, set}

-- where a cell goes, and where it comes from
pub data Pair : Type 0 where
  pair : ℕ → ℕ → Pair

-- dst with the n bytes of src from place s on, at place d on
unfoldable pub moved : List ℕ → ℕ → List ℕ → ℕ → ℕ → List ℕ
moved dst d src s zero = dst
moved dst d src s (suc n) = set (moved dst d src s n) (d + n) (get_or src (s + n) 0)

-- THE COPY of a list of cells of w bytes, one after the other
unfoldable pub copied : ℕ → List Pair → List ℕ → List ℕ → List ℕ
copied w [] dst src = dst
copied w (pair d s ∷ ps) dst src = copied w ps (moved dst d src s w) src

-- ---- what holds of a list of cells, told by its members alone

abbrev pub In : {A : Type 0} → A → List A → Type 0
In p [] = ⊥
In p (q ∷ qs) = (p ≡ q) ⊎ In p qs

-- two lists have the same members
abbrev pub Same : {A : Type 0} → List A → List A → Type 0
Same ps qs = (p : _) → In p ps ↔ In p qs

-- every cell lies in a destination of m bytes and in a source of n
abbrev pub AllIn : ℕ → ℕ → ℕ → List Pair → Type 0
AllIn w m n ps = (d s : ℕ) → In (pair d s) ps → (d + w ≤ m) × (s + w ≤ n)

-- cells of w bytes at d and at e share no byte
abbrev pub Clear : ℕ → ℕ → ℕ → Type 0
Clear w d e = (d + w ≤ e) ⊎ (e + w ≤ d)

-- any two cells are the same, or share no byte of the destination
abbrev pub Apart : ℕ → List Pair → Type 0
Apart w ps = (d s e t : ℕ) → In (pair d s) ps → In (pair e t) ps → (pair d s ≡ pair e t) ⊎ Clear w d e

-- byte i is none of the cell at d
abbrev pub Off : ℕ → ℕ → ℕ → Type 0
Off w d i = (i < d) ⊎ (d + w ≤ i)

-- THE MEANING, with no order: each destination cell holds its source cell's bytes, and every other byte is as before
pub record Holds (w : ℕ) (ps : List Pair) (dst src out : List ℕ) : Type 0 where
  pub long : length out ≡ length dst
  pub cells : (d s : ℕ) → In (pair d s) ps → (k : ℕ) → k < w → get_or out (d + k) 0 ≡ get_or src (s + k) 0
  pub kept : (i : ℕ) → ((d s : ℕ) → In (pair d s) ps → Off w d i) → get_or out i 0 ≡ get_or dst i 0
