-- OFFSETS AT A PLACE: "its offsets are the block's plus k times the strides" is, less the start, the sum of the cell's plan index times the
-- plan's strides.
-- Assumes nothing.
use Rattle.std.specs.Prelude.{◌≡◌, refl, List, [], ◌∷◌, ℕ, zero, suc, ◌+◌, ◌*◌, ◌<◌, length, get_or, ℤ, pos, ◌+ℤ◌, ◌-ℤ◌, ◌*ℤ◌}
use Rattle.std.proofs.Common.{sym, ap, ap₂, ◌∙◌, arith}
use Rattle.std.proofs.Math.ListN.{get_or-map}
use Rattle.std.proofs.Math.IntN.{zero-*ℤ, +ℤ_assoc, +ℤ_comm}
use Rattle.strided.specs.Layout.{dot}
use Rattle.strided.specs.Walk.{CutAxis, ax, length_at, first_of, run_strides, cell_at}
use Rattle.strided.specs.Step.{offsets_from}
use Rattle.laws.specs.Base.Integers.{add-*ℤ, +ℤ-less}

dot_cell : (s : ℕ) (v : List ℕ) (k : ℕ) (ts : List ℤ) → dot (cell_at (s ∷ v) k) ts ≡ dot (s ∷ v) ts +ℤ pos k *ℤ first_of ts
dot_cell s v k [] =
    let z : 0 ≡ 0 + k * 0 = omega arith in
    ap pos z
dot_cell s v k (t ∷ ts) =
    ap (λ u. u +ℤ dot v ts) (add-*ℤ (pos s) (pos k) t)
    ∙ +ℤ_assoc (pos s *ℤ t) (pos k *ℤ t) (dot v ts)
    ∙ ap (λ u. pos s *ℤ t +ℤ u) (+ℤ_comm (pos k *ℤ t) (dot v ts))
    ∙ sym (+ℤ_assoc (pos s *ℤ t) (dot v ts) (pos k *ℤ t))

-- k is 0 at rank 0
dot-place : (axs : List CutAxis) (c : List ℕ) (k : ℕ) (ts : List ℤ) → k < length_at axs c → dot (cell_at c k) ts ≡ dot c ts +ℤ pos k *ℤ first_of ts
dot-place axs (s ∷ v) k ts h = dot_cell s v k ts
dot-place [] [] k ts h =
    let z : k ≡ 0 = omega arith in
    rw (z, zero-*ℤ (first_of ts))
dot-place (ax e w ∷ axs) [] k ts h = absurd (omega arith)

pub get_d_offsets : (tss : List (List ℤ)) (zs : List ℤ) (c : List ℕ) (j : ℕ) → length zs ≡ length tss → j < length tss
    → get_or (offsets_from tss zs c) j (pos 0) ≡ get_or zs j (pos 0) +ℤ dot c (get_or tss j [])
get_d_offsets [] zs c j e h = absurd (omega arith)
get_d_offsets (ts ∷ tss) [] c j e h = absurd (omega arith)
get_d_offsets (ts ∷ tss) (z ∷ zs) c zero e h = refl
get_d_offsets (ts ∷ tss) (z ∷ zs) c (suc j) e h = get_d_offsets tss zs c j (omega arith) (omega arith)

-- k times the stride of axis 0; k is 0 at rank 0
run-first : (axs : List CutAxis) (c : List ℕ) (k : ℕ) (tss : List (List ℤ)) (j : ℕ) → k < length_at axs c
    → pos k *ℤ get_or (run_strides axs tss) j (pos 0) ≡ pos k *ℤ first_of (get_or tss j [])
run-first [] c k tss j h =
    let z : k ≡ 0 = omega arith in
    rw z (zero-*ℤ (pos 0) ∙ sym (zero-*ℤ (first_of (get_or tss j []))))
run-first (a ∷ axs) c k tss j h = ap (λ t. pos k *ℤ t) (get_or-map first_of tss j [])

pub place_offset : (axs : List CutAxis) (tss : List (List ℤ)) (zs : List ℤ) (c : List ℕ) (k j : ℕ) → length zs ≡ length tss → j < length tss → k < length_at axs c
    → get_or (offsets_from tss zs c) j (pos 0) +ℤ pos k *ℤ get_or (run_strides axs tss) j (pos 0) -ℤ get_or zs j (pos 0) ≡ dot (cell_at c k) (get_or tss j [])
place_offset axs tss zs c k j e h b =
    let z : ℤ = get_or zs j (pos 0) in
    let ts : List ℤ = get_or tss j [] in
    ap₂ (λ (u v : ℤ). u +ℤ v -ℤ z) (get_d_offsets tss zs c j e h) (run-first axs c k tss j b)
    ∙ ap (λ (u : ℤ). u -ℤ z) (+ℤ_assoc z (dot c ts) (pos k *ℤ first_of ts))
    ∙ +ℤ-less z (dot c ts +ℤ pos k *ℤ first_of ts)
    ∙ sym (dot-place axs c k ts b)
