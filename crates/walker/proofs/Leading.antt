-- How far each operand moves along a way, what a way is found by, and what it reads of a plan.
-- Assumes nothing.
use mathlib.Core.Path.{◌≡◌, refl, sym, ap, ap₂, ◌∙◌, subst}
use mathlib.Core.Bool.{true, false, false≢true}
use mathlib.Core.List.{List}
use Rattle.std.specs.Prelude.{Option, None, Some}
use Prim.Native.Nat.{ℕ, ◌+◌, ◌-◌, ◌*◌, ◌^◌, ◌≤◌, ◌<◌}
use native.Mathlib.Nat.{lt_of_le_of_lt, mul-le-mul_right}
use native.Mathlib.Omega.{arith}
use lib.IntN.{ℤ, pos, nat_abs, sub_ℕ, ◌+ℤ◌, ◌*ℤ◌, +ℤ_idl}
use lib.ListN.{get_or, take, replicate, length-take, length-replicate, get_or-replicate}
use lib.Seq.{get_or-take}
use mir.Syntax.{w64}
use mir.Val.{SFits}
use Rattle.advance.specs.Moves.{after_move, Shifts}
use Rattle.advance.specs.Carry.{Roomy}
use Rattle.advance.proofs.Signed as signed
use Rattle.strided.specs.Begin.{plan_extents}
use Rattle.strided.specs.Memory.{plan_of}
use Rattle.strided.specs.declared.Plan.{Plan}
use Rattle.layout.specs.Below.{FirstBelow}
use Rattle.advance.specs.declared.State.{State}
use Rattle.walker.specs.declared.way.Way.{Way}
use Rattle.walker.specs.Way.{FirstCut, Along, Leads, left_in, left_of}

-- each operand's move stays within 64 bits
moves_fit_on : {y : Way} {p : Plan} {w : List ℕ} {at : State} → Roomy p at → Along y p w → Shifts p y.axis 0 y.by (replicate 8 (pos 0))
unfolding after_move
moves_fit_on {y} {p} {w} r l = record {
  inside = y.small;
  offered = length-replicate {A = ℤ} 8 (pos 0);
  each = λ k h.
      let t : ℤ = get_or p.strides (k * 64 + y.axis) (pos 0) in
      let small : y.by * nat_abs t < 2 ^ 63 =
      lt_of_le_of_lt (mul-le-mul_right (nat_abs t) (let g : y.by ≤ get_or p.extents y.axis 0 - 1 = omega (arith, l.room) in g)) (r.span k y.axis h l.there) in
      let z : get_or (replicate 8 (pos 0)) k (pos 0) ≡ pos 0 = get_or-replicate 8 k (pos 0) (pos 0) (omega (arith, r.few, h)) in
      let d : sub_ℕ y.by 0 ≡ pos y.by = signed.ahead 0 y.by (omega arith) ∙ ap pos (let g : y.by - 0 ≡ y.by = omega arith in g) in
      let sum : get_or (replicate 8 (pos 0)) k (pos 0) +ℤ sub_ℕ y.by 0 *ℤ t ≡ pos y.by *ℤ t = ap₂ (λ (x u : ℤ). x +ℤ u *ℤ t) z d ∙ +ℤ_idl (pos y.by *ℤ t) in
      record {
        span = subst (λ (n : ℕ). n * nat_abs t < 2 ^ 63) (let g : y.by ≡ (y.by - 0) + (0 - y.by) = omega arith in g) small;
        lands = subst (SFits w64) (sym sum) (record { sfits = lt_of_le_of_lt (signed.mag_mul y.by t) small });
      };
}

pub moves_fit : {y : Option Way} {p : Plan} {w : List ℕ} {at : State} → Roomy p at → Leads y p w → (v : Way) → y ≡ Some v → Shifts p v.axis 0 v.by (replicate 8 (pos 0))
moves_fit r l v e = moves_fit_on r (l.along v e)

-- ---- what a way is found by: from tile to tile, along the first axis with a second tile

pub along_tiles : {p : Plan} {w : List ℕ} {v : Way} → FirstCut p w None → {r : ℕ} → r ≡ p.rank → {es : List ℕ} → es ≡ plan_extents p → FirstBelow (take r w) es (Some v.axis)
    → v.inside ≡ false → v.by ≡ get_or w v.axis 0 → Along v p w
along_tiles {p} {w} {v} ones {r} r-is {es} es-are below i b = record {
  there = subst (λ (n : ℕ). v.axis < n) r-is on_rank;
  room = let f = below.2 in let x = width-at v.axis on_rank in let z = extent-there v.axis on_rank in omega (arith, f, x, z, b);
  inner_by = λ k. absurd (false≢true (sym i ∙ k));
  inner_axis = λ k. absurd (false≢true (sym i ∙ k));
  inner-still = λ k. absurd (false≢true (sym i ∙ k));
  tile_by = λ k. b;
  tile_still = λ k. ones;
  tile_whole = λ k j h. let g : j < r = omega (arith, on_rank, h) in let f = below.3 j h in let x = width-at j g in let z = extent-there j g in omega (arith, f, x, z);
}
  where
    on_rank : v.axis < r
    on_rank = let f = below.1 in omega (arith, f, length-take r w)

    width-at : (j : ℕ) → j < r → get_or (take r w) j 0 ≡ get_or w j 0
    width-at j h = get_or-take r w j 0 h

    extent-there : (j : ℕ) → j < r → get_or es j 0 ≡ get_or p.extents j 0
    extent-there j h = ap (λ (l : List ℕ). get_or l j 0) es-are ∙ get_or-take p.rank p.extents j 0 (subst (λ (n : ℕ). j < n) r-is h)

-- and inside a tile, along the first axis whose blocks are not 1, if it has a second index
pub along_cut : {p : Plan} {w : List ℕ} {i : ℕ} → FirstCut p w (Some i) → {v : Way} → v.inside ≡ true → v.axis ≡ i → v.by ≡ 1 → 1 < get_or p.extents i 0 → Along v p w
along_cut {p} {w} f {v} g a b h = record {
  there = subst (λ (n : ℕ). n < p.rank) (sym a) f.1;
  room = subst (λ (n : ℕ). n < get_or p.extents v.axis 0) (sym b) (subst (λ (n : ℕ). 1 < get_or p.extents n 0) (sym a) h);
  inner_by = λ k. b;
  inner_axis = λ k. subst (λ (n : ℕ). 1 ≤ n) (sym a) f.0;
  inner-still = λ k j o q. f.3 j o (subst (λ (n : ℕ). j < n) a q);
  tile_by = λ k. absurd (false≢true (sym k ∙ g));
  tile_still = λ k. absurd (false≢true (sym k ∙ g));
  tile_whole = λ k. absurd (false≢true (sym k ∙ g));
}

-- ---- of a plan a way reads the rank and the extents alone

along_axes : {y : Way} {rank n m : ℕ} {e b d w : List ℕ} {s t : List ℤ} → Along y (plan_of rank n e b s) w → Along y (plan_of rank m e d t) w
along_axes a = record {
  there = a.there;
  room = a.room;
  inner_by = a.inner_by;
  inner_axis = a.inner_axis;
  inner-still = a.inner-still;
  tile_by = a.tile_by;
  tile_still = a.tile_still;
  tile_whole = a.tile_whole;
}

pub leads_axes : {y : Option Way} {rank n m : ℕ} {e b d w : List ℕ} {s t : List ℤ} → Leads y (plan_of rank n e b s) w → Leads y (plan_of rank m e d t) w
leads_axes l = record { along = λ v q. along_axes (l.along v q) }

pub left_axes : (y : Option Way) (p q : Plan) (w c : List ℕ) → p.extents ≡ q.extents → left_of y p w c ≡ left_of y q w c
left_axes None p q w c e = refl
left_axes (Some y) p q w c e = ap (λ (l : List ℕ). left_in y (get_or l y.axis 0) (get_or w y.axis 0) (get_or c y.axis 0)) e
