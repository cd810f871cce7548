-- The step on arrays is the step on lists: sums of counter times stride, and what a move to the next block leaves of the offsets.
-- Assumes nothing.
use mathlib.Core.Path.{◌≡◌, refl, sym, ap, ap₂, ◌∙◌, subst}
use mathlib.Core.Bool.{Bool}
use mathlib.Core.List.{List, [], ◌∷◌}
use Prim.Native.Nat.{ℕ, zero, suc, ◌+◌, ◌*◌, ◌≤◌, ◌<◌}
use native.Mathlib.Omega.{arith}
use lib.IntN.{ℤ, pos, ◌+ℤ◌, ◌*ℤ◌, +ℤ_comm, +ℤ_assoc, -ℤ-+ℤ_cancel}
use lib.ListN.{length, get_or}
use lib.Seq.{ext_get_or}
use Rattle.strided.specs.Layout.{dot}
use Rattle.strided.specs.declared.Plan.{Plan}
use Rattle.advance.specs.declared.State.{State}
use Rattle.advance.specs.Filled.{by_lt, filled_length, filled_above, filled_at}
use Rattle.advance.specs.Carry.{Carried, dot_to, start_at, Roomy, MovedTo}
use Rattle.advance.specs.Blocks.{offset_at, offsets_at}

-- ---- sums

-- f 0 + f 1 + .., n terms
total : (ℕ → ℤ) → ℕ → ℤ
total f zero = pos 0
total f (suc n) = total f n +ℤ f n

total-front : (f : ℕ → ℤ) (n : ℕ) → total f (suc n) ≡ f 0 +ℤ total (λ (i : ℕ). f (suc i)) n
unfolding total
total-front f zero = +ℤ_comm (pos 0) (f 0)
total-front f (suc n) =
    ap (λ (z : ℤ). z +ℤ f (suc n)) (total-front f n) ∙ +ℤ_assoc (f 0) (total (λ (i : ℕ). f (suc i)) n) (f (suc n))

dot-total : (n : ℕ) (u : List ℕ) (ts : List ℤ) → length u ≡ n → length ts ≡ n → total (λ (i : ℕ). pos (get_or u i 0) *ℤ get_or ts i (pos 0)) n ≡ dot u ts
unfolding total
dot-total zero [] ts p q = refl
dot-total zero (x ∷ u) ts p q = absurd (omega arith)
dot-total (suc n) [] ts p q = absurd (omega arith)
dot-total (suc n) (x ∷ u) [] p q = absurd (omega arith)
dot-total (suc n) (x ∷ u) (t ∷ ts) p q =
    total-front (λ (i : ℕ). pos (get_or (x ∷ u) i 0) *ℤ get_or (t ∷ ts) i (pos 0)) n
    ∙ ap (λ (z : ℤ). pos x *ℤ t +ℤ z) (dot-total n u ts (omega arith) (omega arith))

to_total : (n k : ℕ) (c : List ℕ) (s : List ℤ) (u : List ℕ) (ts : List ℤ)
    → ((i : ℕ) → i < n → get_or c i 0 ≡ get_or u i 0) → ((i : ℕ) → i < n → get_or s (k * 64 + i) (pos 0) ≡ get_or ts i (pos 0))
    → dot_to n k c s ≡ total (λ (i : ℕ). pos (get_or u i 0) *ℤ get_or ts i (pos 0)) n
unfolding dot_to total
to_total zero k c s u ts f g = refl
to_total (suc n) k c s u ts f g =
    ap₂ (λ (a b : ℤ). a +ℤ b) (to_total n k c s u ts (λ i h. f i (omega arith)) (λ i h. g i (omega arith)))
    (ap₂ (λ (x : ℕ) (t : ℤ). pos x *ℤ t) (f n (omega arith)) (g n (omega arith)))

-- the sum over arrays is that over the lists that stand in them
pub dot_list : (n k : ℕ) (c : List ℕ) (s : List ℤ) (u : List ℕ) (ts : List ℤ) → length u ≡ n → length ts ≡ n
    → ((i : ℕ) → i < n → get_or c i 0 ≡ get_or u i 0) → ((i : ℕ) → i < n → get_or s (k * 64 + i) (pos 0) ≡ get_or ts i (pos 0))
    → dot_to n k c s ≡ dot u ts
dot_list n k c s u ts p q f g = to_total n k c s u ts f g ∙ dot-total n u ts p q

-- ---- the offsets that a move leaves are those at the counters that it leaves

module _ {goes : Carried} {p : Plan} {w : List ℕ} {at : State} {more : Bool} {at' : State} (r : Roomy p at) (m : MovedTo goes p w at more at') where
  offset_there : (k : ℕ) → k < p.operands → get_or at'.offsets k (pos 0) ≡ start_at p k at.counters at.offsets +ℤ dot_to p.rank k at'.counters p.strides
  unfolding start_at
  offset_there k h = sym (-ℤ-+ℤ_cancel (get_or at'.offsets k (pos 0)) (dot_to p.rank k at'.counters p.strides)) ∙ ap (λ (z : ℤ). z +ℤ dot_to p.rank k at'.counters p.strides) (m.starts k h)

  offsets_there : at'.offsets ≡ offsets_at p at.counters at.offsets at'.counters
  offsets_there =
      ext_get_or (pos 0) at'.offsets (offsets_at p at.counters at.offsets at'.counters) (m.roomy.offered ∙ sym (filled_length at.offsets (offset_at p at.counters at.offsets at'.counters) p.operands ∙ r.offered))
      (λ k _. by_lt k p.operands
      (λ lt. offset_there k lt ∙ sym (filled_at at.offsets (offset_at p at.counters at.offsets at'.counters) (pos 0) p.operands k lt (subst (λ (n : ℕ). p.operands ≤ n) (sym r.offered) r.few)))
      (λ le. m.others k le ∙ sym (filled_above at.offsets (offset_at p at.counters at.offsets at'.counters) (pos 0) p.operands k le)))

  pub moved_offsets : at'.offsets ≡ offsets_at p at.counters at.offsets goes.counters
  moved_offsets = offsets_there ∙ ap (offsets_at p at.counters at.offsets) m.counters
