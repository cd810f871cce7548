-- The loop that writes the next blocks: what a turn of it leaves, stretch by stretch, and what all turns have written at the end.
-- Assumes nothing.
use mathlib.Core.Path.{◌≡◌, refl, sym, ap, ◌∙◌, subst}
use Rattle.std.specs.Prelude.{Option, Some, Result, Ok, Err}
use mathlib.Core.Bool.{Bool, true, false}
use mathlib.Core.List.{List, ◌++◌, map, map-map, map-append}
use Prim.Native.Nat.{ℕ, ◌+◌, ◌-◌, ◌*◌, ◌^◌, ◌≤◌, ◌<◌, min}
use native.Mathlib.Nat.{mul-le-mul_right}
use native.Mathlib.Omega.{arith}
use lib.IntN.{ℤ}
use lib.ListN.{length, take, drop, replicate, length-append, length-drop, length-map, length-replicate}
use lib.Seq.{paste}
use Rattle.strided.specs.Base.{over, run}
use Rattle.strided.specs.Step.{stepped, handed_block, walk_after}
use Rattle.strided.specs.Bulk.{next_blocks, lengths_of, offsets_of, laid_on, written, several_by, several_of}
use Rattle.strided.specs.declared.Refusal.{Refusal}
use Rattle.strided.specs.declared.Block.{Block}
use Rattle.strided.specs.declared.Plan.{Plan}
use Rattle.strided.specs.declared.Walk.{Walk}
use Rattle.strided.specs.declared.Stepped.{Stepped}
use Rattle.laws.specs.Base.Filling.{rows_alike}
use Rattle.laws.specs.Base.Lists.{over-append, over-map}
use Rattle.laws.specs.Walk.Placed.{Placed, placed_of}
use Rattle.advance.specs.declared.State.{State}
use Rattle.advance.specs.Carry.{state_of}
use Rattle.advance.specs.Axis.{widths, starts_to}
use Rattle.advance.specs.Blocks.{length_of}
use Rattle.strided.specs.Memory.{walk_of, WalkMemory, walk_memory}
use Rattle.walk.specs.Lent.{Taken}
use Rattle.walk.proofs.Stepping.{block_here}
use Rattle.walker.specs.declared.way.Way.{Way}
use Rattle.walker.specs.declared.Next.{Next}
use Rattle.walker.specs.Stretch.{block_in, told}
use Rattle.walker.specs.Way.{Leads, left_of, moves_of, Strides, Passed, Strode}
use Rattle.walker.proofs.Going.{strode_of}
use Rattle.walker.proofs.Walked.{Walked, walked_none, walked_left, rows-here, steps_here, walked_blocks, walked_next, walked_laid, walked_fit, walked_all}
use Rattle.bulk.specs.Blocks.{handed, HasRoom, Wrote, rows_for, MayPut}
use Rattle.bulk.proofs.Laying.{laid_paste, rows_long}

laid_long : {A : Type 0} (xs old : List A) → length xs ≤ length old → length (laid_on xs old) ≡ length old
laid_long xs old h = let a = length-append xs (drop (length xs) old) in let b = length-drop (length xs) old in omega (arith, a, b, h)

-- n blocks are written: where the walk stands, and the slices. They were ls₀ and os₀
pub record Turned (p : Plan) (u : Walk) (y : Option Way) (w ls₀ : List ℕ) (os₀ : List ℤ) (n : ℕ) (at : State) (ls : List ℕ) (os : List ℤ) : Type 0 where
  pub walked : Walked p u y w n true at
  pub long : length (offsets_of p.operands (next_blocks n p u)) ≡ n * p.operands
  pub lengths : ls ≡ laid_on (lengths_of (next_blocks n p u)) ls₀
  pub offsets : os ≡ laid_on (offsets_of p.operands (next_blocks n p u)) os₀

pub turned_none : {p : Plan} {y : Option Way} {w ls : List ℕ} {os : List ℤ} → w ≡ widths p → Leads y p w → {c : List ℕ} {o : List ℤ} → Taken p (walk_of false c o)
    → {t : List ℕ} → t ≡ starts_to w c p.rank → Turned p (walk_of false c o) y w ls os 0 (state_of t c o) ls os
turned_none {p} is l k e = record { walked = walked_none is l k e; long = omega arith; lengths = refl; offsets = refl }

-- many steps, where the first hands out a block
several_some : (s : Result Stepped Refusal) {b : Block} → handed_block s ≡ Some b → (n : ℕ) (v : Walk) → several_by s n v ≡ Ok (handed n v)
several_some (Ok s) e n v = ap (λ (o : Option Block). Ok (record { blocks = written o n; walk = v })) e
several_some (Err r) e n v = let z : ◌≡◌ {A = ℕ} 0 1 = cc e in absurd (omega arith)

-- what is returned after n blocks
returned : {p : Plan} {u : Walk} (room n : ℕ) {v : Walk} → Taken p u → u.ended ≡ false → next_blocks room p u ≡ next_blocks n p u → length (next_blocks n p u) ≡ n → v ≡ walk_after p n u
    → Ok (handed n v) ≡ several_of p u (next_blocks room p u)
returned {p} {u} room n {v} k h e l f =
    let c : n ≡ length (next_blocks room p u) = sym (ap length e ∙ l) in
    let g : v ≡ walk_after p (length (next_blocks room p u)) u = f ∙ ap (λ (m : ℕ). walk_after p m u) c in
    (λ i. Ok (record { blocks = Some (c i); walk = g i }))
    ∙ sym (several_some (stepped p u) (block_here p u k h) (length (next_blocks room p u)) (walk_after p (length (next_blocks room p u)) u))

module _ {p : Plan} {u : Walk} {y : Option Way} {w ls₀ : List ℕ} {os₀ : List ℤ} {n : ℕ} {at : State} {ls : List ℕ} {os : List ℤ} (d : Turned p u y w ls₀ os₀ n at ls os)
    {room : ℕ} (fits : HasRoom room p.operands ls₀ os₀) where
  module _ (h : n ≤ room) where
    pub turned_long : length os ≡ length os₀
    turned_long =
        let a = d.long in
        let f = fits.offsets in
        let b : n * p.operands ≤ room * p.operands = mul-le-mul_right p.operands h in
        ap length d.offsets ∙ laid_long (offsets_of p.operands (next_blocks n p u)) os₀ (omega (arith, a, b, f))

  -- some blocks of the stretch at the state
  module _ (h : n < room) {left count : ℕ} (left_is : left ≡ left_of y p w at.counters) (count-is : count ≡ min (room - n) left) where
    below : n ≤ room
    below = omega arith

    pub count_some : 1 ≤ count
    count_some = let k = walked_left d.walked in omega (arith, k, h, left_is, count-is)

    pub count_fits : n + count ≤ room
    count_fits = omega (arith, h, count-is)

    places : (n + count) * p.operands ≤ length os
    places =
        let b = turned_long below in
        let f = fits.offsets in
        let m : (n + count) * p.operands ≤ room * p.operands = mul-le-mul_right p.operands count_fits in
        omega (arith, b, f, m)

    -- what `put_rows` asks; the moves as `moves_of` tells them
    pub may-put : {d' : List ℤ} → d' ≡ moves_of y p → room < 2 ^ 63 → MayPut count p.operands n d' at.offsets os
    may-put d-is g = record {
      small = let k = count_fits in omega (arith, k, g);
      room = places;
      rows = rows-here d.walked d-is (omega (arith, left_is, count-is));
      steps = steps_here d.walked d-is (omega (arith, left_is, count-is));
    }

  -- a stretch of them
  module _ (h : n < room) {r : Next} {first : List ℤ} {at' : State} (x : Strode y (room - n) p w at r first at') where
    abbrev here : Walk
    here = walk_of false at.counters at.offsets

    -- the moves, as `moves_of` tells them
    module _ {d' : List ℤ} (d-is : d' ≡ moves_of y p) where
      lengths_of_lem : lengths_of (next_blocks r.count p here) ≡ replicate r.count r.length
      lengths_of_lem =
          sym (map-map (λ (z : Placed). z.length) (placed_of p.operands) (next_blocks r.count p here))
          ∙ ap (map (λ (z : Placed). z.length)) (walked_laid d.walked x d-is)
          ∙ map-map (λ (z : Placed). z.length) (block_in (told p.operands r first d')) (run 0 r.count)
          ∙ rows_alike r.length 0 r.count

      offsets_of_lem : offsets_of p.operands (next_blocks r.count p here) ≡ rows_for r.count p.operands d' first
      offsets_of_lem =
          sym (over-map (placed_of p.operands) (next_blocks r.count p here) (λ (z : Placed). z.offsets))
          ∙ ap (λ (l : List Placed). over l (λ (z : Placed). z.offsets)) (walked_laid d.walked x d-is)
          ∙ over-map (block_in (told p.operands r first d')) (run 0 r.count) (λ (z : Placed). z.offsets)

      lengths-next : lengths_of (next_blocks (n + r.count) p u) ≡ lengths_of (next_blocks n p u) ++ replicate r.count r.length
      lengths-next =
          ap lengths_of (walked_blocks d.walked x)
          ∙ map-append (λ (s : Block). s.length) (next_blocks n p u) (next_blocks r.count p here)
          ∙ ap (λ (l : List ℕ). lengths_of (next_blocks n p u) ++ l) lengths_of_lem

      offsets_next : offsets_of p.operands (next_blocks (n + r.count) p u) ≡ offsets_of p.operands (next_blocks n p u) ++ rows_for r.count p.operands d' first
      offsets_next =
          ap (offsets_of p.operands) (walked_blocks d.walked x)
          ∙ over-append (next_blocks n p u) (next_blocks r.count p here) (λ s. take p.operands s.offsets)
          ∙ ap (λ (l : List ℤ). offsets_of p.operands (next_blocks n p u) ++ l) offsets_of_lem

      rows-many : length (rows_for r.count p.operands d' first) ≡ r.count * p.operands
      rows-many = rows_long (walked_fit d.walked x d-is) r.count

      module _ {ls' : List ℕ} {os' : List ℤ} (e : ls' ≡ paste ls n (replicate r.count r.length) r.count)
          (f : os' ≡ paste os (n * p.operands) (rows_for r.count p.operands d' first) (r.count * p.operands)) where
        lengths_are : ls' ≡ laid_on (lengths_of (next_blocks (n + r.count) p u)) ls₀
        lengths_are =
            let xs : List ℕ = lengths_of (next_blocks n p u) in
            e ∙ ap (λ (l : List ℕ). paste l n (replicate r.count r.length) r.count) d.lengths
            ∙ laid_paste xs ls₀ (replicate r.count r.length) n r.count (length-map (next_blocks n p u) _ ∙ d.walked.full) (length-replicate {A = ℕ} r.count r.length)
            ∙ ap (λ (l : List ℕ). laid_on l ls₀) (sym lengths-next)

        offsets_are : os' ≡ laid_on (offsets_of p.operands (next_blocks (n + r.count) p u)) os₀
        offsets_are =
            let R : List ℤ = rows_for r.count p.operands d' first in
            f ∙ ap (λ (l : List ℤ). paste l (n * p.operands) R (r.count * p.operands)) d.offsets
            ∙ laid_paste (offsets_of p.operands (next_blocks n p u)) os₀ R (n * p.operands) (r.count * p.operands) d.long rows-many
            ∙ ap (λ (l : List ℤ). laid_on l os₀) (sym offsets_next)

        -- there is a next block
        pub turned-next : r.more ≡ true → Turned p u y w ls₀ os₀ (n + r.count) at' ls' os'
        turned-next g = record {
          walked = rw g at (walked_next d.walked x);
          long =
              let a = d.long in
              let b = rows-many in
              omega (arith, ap length offsets_next, length-append (offsets_of p.operands (next_blocks n p u)) (rows_for r.count p.operands d' first), a, b);
          lengths = lengths_are;
          offsets = offsets_are;
        }

        -- there is none: no later block was left out
        pub wrote_last : r.more ≡ false → Taken p u → u.ended ≡ false → {m : WalkMemory} → m ≡ walk_memory (walk_of true at'.counters at'.offsets) → Wrote room p u ls₀ os₀ (n + r.count) m ls' os'
        wrote_last g k z q =
            let v : Walked p u y w (n + r.count) false at' = rw g at (walked_next d.walked x) in
            let b = count_fits h refl x.count in
            let all : n + r.count + (room - (n + r.count)) ≡ room = omega (arith, b) in
            let same : next_blocks room p u ≡ next_blocks (n + r.count) p u = ap (λ (i : ℕ). next_blocks i p u) (sym all) ∙ walked_all v (room - (n + r.count)) in
            record {
              walk = walk_of true at'.counters at'.offsets;
              stands = q;
              several = returned room (n + r.count) k z same v.full v.state;
              lengths = lengths_are ∙ ap (λ (l : List Block). laid_on (lengths_of l) ls₀) (sym same);
              offsets = offsets_are ∙ ap (λ (l : List Block). laid_on (offsets_of p.operands l) os₀) (sym same);
            }

  -- the slices are full
  pub wrote_full : n ≡ room → Taken p u → u.ended ≡ false → {m : WalkMemory} → m ≡ walk_memory (walk_of false at.counters at.offsets) → Wrote room p u ls₀ os₀ n m ls os
  wrote_full e k z q =
      let same : next_blocks room p u ≡ next_blocks n p u = ap (λ (i : ℕ). next_blocks i p u) (sym e) in
      record {
        walk = walk_of false at.counters at.offsets;
        stands = q;
        several = returned room n k z same d.walked.full d.walked.state;
        lengths = d.lengths ∙ ap (λ (l : List Block). laid_on (lengths_of l) ls₀) (sym same);
        offsets = d.offsets ∙ ap (λ (l : List Block). laid_on (offsets_of p.operands l) os₀) (sym same);
      }

-- ---- past a stretch: at once, or after a hop that was none

module _ {y : Option Way} {limit : ℕ} {p : Plan} {w : List ℕ} {at : State} {left len count : ℕ} (a : left ≡ left_of y p w at.counters) (b : len ≡ length_of p w at.counters) (n : count ≡ min limit left)
    {more : Bool} {at' : State} where
  pub strode_past : Passed y limit p w at more at' → Strode y limit p w at (record { count = count; length = len; more = more }) at.offsets at'
  strode_past h = strode_of a b n refl h

module _ {p : Plan} {w : List ℕ} {at at₁ : State} (k : at₁ ≡ at) where
  pub kept_asks : (y : Option Way) → Strides p w at → {left : ℕ} → left ≡ left_of y p w at.counters → Strides p w at₁ × (left ≡ left_of y p w at₁.counters)
  kept_asks y m a = (subst (Strides p w) (sym k) m, a ∙ ap (λ (x : State). left_of y p w x.counters) (sym k))

  pub kept_passed : {y : Option Way} {limit : ℕ} {more : Bool} {at' : State} → Passed y limit p w at₁ more at' → Passed y limit p w at more at'
  kept_passed {y} {limit} {more} {at'} h = subst (λ (x : State). Passed y limit p w x more at') k h
