-- Laws of block sizes and tile starts that are not kept: they are those that the arrays would have. Assumes nothing.
use mathlib.Core.Path.{◌≡◌, refl, sym, ap, ◌∙◌}
use mathlib.Core.Bool.{Bool, true, false, cond}
use mathlib.Core.List.{List}
use Prim.Native.Nat.{ℕ, zero, suc, ◌≤◌, ◌<◌}
use native.Mathlib.Omega.{arith}
use lib.Dec.{ltb}
use lib.ListN.{get_or, replicate}
use borrow.Author.Tests.{ltb-true, lt-leb, eq-eqb, ne_eqb}
use lib.IntN.{ℤ}
use Rattle.strided.specs.declared.Plan.{Plan}
use Rattle.advance.specs.Axis.{width_of, width_at, widths, tile_at, starts_to}
use Rattle.advance.specs.declared.State.{State}
use Rattle.advance.specs.Carry.{Carried, state_of, Roomy, Tiled, Single, MovedTo}
use Rattle.advance.specs.Blocks.{length_by, length_of}
use Rattle.advance.specs.Filled.{filled_length, filled_at}
use Rattle.advance.proofs.Turns.{Before}
use Rattle.advance.proofs.Acts.{all_places, width_read, width_pos}
use Rattle.walk.specs.Onward.{inner_of}

module _ (p : Plan) (few : p.rank ≤ 64) where
  pub tiled_any : (c : List ℕ) (o : List ℤ) → Tiled p (widths p) (state_of (starts_to (widths p) c p.rank) c o)
  tiled_any c o = record {
    placed = filled_length (replicate 64 0) (tile_at (widths p) c) p.rank ∙ all_places;
    wide = width_pos p few;
    start = λ i h. filled_at (replicate 64 0) (tile_at (widths p) c) 0 p.rank i h (omega (arith, all_places, few));
  }

  -- from rank 9 on the blocks of all axes but axis 0 are 1
  single-one : 8 < p.rank → (i : ℕ) → 1 ≤ i → i < p.rank → get_or (widths p) i 0 ≡ 1
  unfolding width_of
  single-one h i q l = sym (width_read p few i l refl) ∙ rw (lt-leb p.rank 8 h, ne_eqb i 0 (λ z. omega arith))

  pub inner-single : Single (inner_of p.rank) p (widths p)
  inner-single = go (ltb 8 p.rank) refl
    where
      go : (t : Bool) → ltb 8 p.rank ≡ t → Single (cond t 1 p.rank) p (widths p)
      go true q = record { most = omega (arith, ltb-true 8 p.rank q); one = single-one (ltb-true 8 p.rank q) }
      go false q = record { most = omega arith; one = λ i p l. absurd (let z : ⊥ = omega arith in z) }

-- tile starts play no part in the room of a state
pub roomy_any : {p : Plan} {t u c : List ℕ} {o : List ℤ} → Roomy p (state_of t c o) → Roomy p (state_of u c o)
roomy_any r = record { axes = r.axes; few = r.few; counted = r.counted; offered = r.offered; within = r.within; span = r.span; reach = r.reach }

pub moved_any : {goes : Carried} {p : Plan} {w t u c : List ℕ} {o : List ℤ} {more : Bool} {at' : State} → MovedTo goes p w (state_of t c o) more at' → MovedTo goes p w (state_of u c o) more at'
moved_any m = record { answer = m.answer; counters = m.counters; roomy = m.roomy; tiled = m.tiled; starts = m.starts; others = m.others }

-- a carry begins at whatever tile starts lie where the counters are
pub begun_any : {inside : Bool} {first last : ℕ} {p : Plan} {w t u c : List ℕ} {o : List ℤ} → Roomy p (state_of t c o) → Tiled p w (state_of u c o) → Before inside first last p w (state_of t c o) first (state_of u c o)
begun_any r d = record { roomy = roomy_any r; tiled = d; starts = λ k h. refl; others = λ k h. refl; same = refl }

-- the length of a block, told with the size in force on axis 0
pub length_read : (p : Plan) → p.rank ≤ 64 → (c : List ℕ) → {x n : ℕ} → x ≡ width_at p 0 → n ≡ length_by p x (get_or c 0 0) → n ≡ length_of p (widths p) c
unfolding length_by
length_read p few c {x} q e = e ∙ go p.rank refl
  where
    go : (r : ℕ) → p.rank ≡ r → length_by p x (get_or c 0 0) ≡ length_of p (widths p) c
    go zero z = rw (eq-eqb p.rank 0 z)
    go (suc r) z = ap (λ (n : ℕ). length_by p n (get_or c 0 0)) (width_read p few 0 (omega (arith, z)) q)
