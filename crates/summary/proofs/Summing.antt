-- A plan's walk while its cells are met, stretch by stretch: what is ahead, and what all cells make.
-- Assumes nothing.
use mathlib.Core.Path.{◌≡◌, refl, sym, ap, ◌∙◌, subst}
use mathlib.Core.Bool.{Bool, true, false, not}
use mathlib.Core.List.{List, [], ◌∷◌, ◌++◌}
use Prim.Native.Nat.{ℕ, ◌+◌}
use native.Mathlib.Omega.{arith}
use lib.IntN.{ℤ, pos}
use lib.Ieee.{Float}
use lib.ListN.{get_or, drop, replicate}
use lib.Dec.{eqb}
use borrow.Author.Tests.{eqb-true}
use Rattle.strided.specs.Base.{over}
use Rattle.strided.specs.Layout.{has_zero}
use Rattle.strided.specs.Begin.{plan_extents, begin_rows, begin_refused, started}
use Rattle.strided.specs.Memory.{walk_of}
use Rattle.strided.specs.declared.Plan.{Plan}
use Rattle.strided.specs.declared.Walk.{Walk}
use Rattle.laws.specs.Base.Lists.{over-append}
use Rattle.laws.specs.Base.Refusals.{NoneApplies, none_applies}
use Rattle.laws.specs.Text.Totals.{begun_total}
use Rattle.laws.specs.Walk.Placed.{Placed, placed_walk, placed-over}
use Rattle.laws.specs.Walk.Steps.{Ready, ready_sized}
use Rattle.std.specs.Prelude.{Option}
use Rattle.advance.specs.Axis.{widths, starts_to}
use Rattle.advance.specs.Carry.{state_of}
use Rattle.advance.specs.declared.State.{State}
use Rattle.walk.specs.Lent.{Taken}
use Rattle.walk.proofs.Stepping.{begun_taken}
use Rattle.walker.specs.declared.way.Way.{Way}
use Rattle.walker.specs.declared.Next.{Next}
use Rattle.walker.specs.Stretch.{laid, told, RowsFit}
use Rattle.walker.specs.Way.{Leads, moves_of, Strode}
use Rattle.walker.proofs.Walked.{Walking, walked_none, walked_fit, walking_next, walking_part, walking_over}
use Rattle.summary.specs.declared.cell.Summary.{Summary}
use Rattle.summary.specs.Sums.{nothing_met}
use Rattle.summary.specs.Visits.{visits_of}
use Rattle.summary.specs.Indices.{visits-many}
use Rattle.summary.specs.Ahead.{rows_from, Ahead, met, RunsFit, Summable}
use Rattle.summary.proofs.Meeting.{met-append, ahead-first, ahead-rest}
use Rattle.summary.proofs.Blocks.{run_in, visits_walk, laid-rows}

-- the walk's first state
abbrev pub first_of : ℤ → Bool → Walk
first_of z ended = walk_of ended (replicate 64 0) (z ∷ replicate 7 (pos 0))

-- ---- a walk that begins at z

no_other : (b : Bool) → not b ≡ false → b ≡ true
no_other true e = refl
no_other false e = sym e

module _ {p : Plan} {z : ℤ} {cells : List Float} (h : Summable p z cells) where
  pub summable_ready : Ready p (z ∷ [])
  summable_ready = ready_sized p (z ∷ []) h.sized.extents-all h.begins

  -- the walk has a start for each operand, so there is one
  pub summable_one : p.operands ≡ 1
  unfolding begin_refused NoneApplies
  summable_one =
      let a : NoneApplies (begin_rows p (z ∷ [])) = none_applies (begin_rows p (z ∷ [])) h.begins in
      sym (eqb-true 1 p.operands (no_other (eqb 1 p.operands) a.1.1.1.1.0))

  -- all its cells may be met
  pub all-ahead : Ahead cells nothing_met (visits_of p z)
  all-ahead = record { few = omega arith; room = let a = visits-many p z in let b = begun_total p (z ∷ []) h.begins in omega (arith, a, b); inside = h.inside }

  abbrev pub W : List Placed
  W = placed_walk p (z ∷ [])

  begun : {ended : Bool} → ended ≡ has_zero (plan_extents p) → first_of z ended ≡ started p (z ∷ [])
  begun e = λ i. record { ended = e i; counters = replicate 64 0; offsets = z ∷ replicate 7 (pos 0) }

  -- it has no block
  pub no_blocks : true ≡ has_zero (plan_extents p) → placed_walk p (z ∷ []) ≡ []
  no_blocks e = placed-over p (z ∷ []) summable_ready 0 (ap (λ (w : Walk). w.ended) (sym (begun e)))

  -- it has one
  module _ (e : false ≡ has_zero (plan_extents p)) where
    pub first_taken : Taken p (first_of z false)
    first_taken = rw (begun e) (begun_taken p (z ∷ []) summable_ready h.sized)

-- ---- the walk before some block n: what is ahead of the summary s

-- the offsets of the cells from block n on
abbrev cells_from : Plan → ℤ → ℕ → List ℤ
cells_from p z n = over (drop n (placed_walk p (z ∷ []))) (run_in (get_or p.strides 0 (pos 0)))

module _ (p : Plan) (z : ℤ) (cells : List Float) where
  pub record Summing (y : Option Way) (w : List ℕ) (more : Bool) (s : Summary) (at : State) : Type 0 where
    pub n : ℕ
    pub summable : Summable p z cells
    pub walking : Walking p (z ∷ []) y w n more at
    pub ahead : Ahead cells s (cells_from p z n)
    pub goes : met cells s (cells_from p z n) ≡ met cells nothing_met (visits_of p z)

-- with no block there is nothing to meet
pub no_cells : {p : Plan} {z : ℤ} {cells : List Float} → Summable p z cells → true ≡ has_zero (plan_extents p) → nothing_met ≡ met cells nothing_met (visits_of p z)
no_cells {p} {z} {cells} h e =
    sym (ap (met cells nothing_met) (visits_walk p (summable_one h) z ∙ ap (λ (l : List Placed). over l (run_in (get_or p.strides 0 (pos 0)))) (no_blocks h e)))

module _ {p : Plan} {z : ℤ} {cells : List Float} where
  pub summing_start : (h : Summable p z cells) (e : false ≡ has_zero (plan_extents p)) {w : List ℕ} → w ≡ widths p → {y : Option Way} → Leads y p w
      → {s : Summary} → s ≡ nothing_met → {at : State} → at ≡ state_of (starts_to w (replicate 64 0) p.rank) (replicate 64 0) (z ∷ replicate 7 (pos 0)) → Summing p z cells y w true s at
  summing_start h e {w} is l n at-is =
      let all = visits_walk p (summable_one h) z in
      rw n (rw at-is
      (record {
        n = 0;
        summable = h;
        walking = record { ready = summable_ready h; first = first_of z false; begins = begun h e; walked = walked_none is l (first_taken h e) refl };
        ahead = subst (Ahead cells nothing_met) all (all-ahead h);
        goes = ap (met cells nothing_met) (sym all);
      }))

  -- once the loop's test is known
  pub summing_while : {y : Option Way} {w : List ℕ} {more b : Bool} {s : Summary} {at : State} → Summing p z cells y w more s at → more ≡ b → Summing p z cells y w b s at
  summing_while k e = rw e at k

  -- while it runs
  module _ {y : Option Way} {w : List ℕ} {s : Summary} {at : State} (k : Summing p z cells y w true s at) where
    abbrev n : ℕ
    n = k.n

    -- a stretch of it
    module _ {limit : ℕ} {r : Next} {first : List ℤ} {at' : State} (x : Strode y limit p w at r first at') {d : List ℤ} (d-is : d ≡ moves_of y p) where
      rows_fit : RowsFit r.count p.operands d first
      rows_fit = walked_fit k.walking.walked x d-is

      one : p.operands ≡ 1
      one = summable_one k.summable

      pub summing_fit : RunsFit (get_or first 0 (pos 0)) (get_or d 0 (pos 0)) r.count
      summing_fit j b = rows_fit.fits j b 0 (omega (arith, one))

      abbrev rows : List ℤ
      rows = rows_from (get_or first 0 (pos 0)) (get_or d 0 (pos 0)) r.count (get_or p.strides 0 (pos 0)) r.length

      -- its cells come next
      left : cells_from p z n ≡ rows ++ cells_from p z (n + r.count)
      left =
          ap (λ (l : List Placed). over l (run_in (get_or p.strides 0 (pos 0)))) (walking_part k.walking x d-is)
          ∙ over-append (laid (told p.operands r first d)) (drop (n + r.count) (placed_walk p (z ∷ []))) (run_in (get_or p.strides 0 (pos 0)))
          ∙ ap (λ (l : List ℤ). l ++ cells_from p z (n + r.count))
          (ap (λ (m : ℕ). over (laid (told m r first d)) (run_in (get_or p.strides 0 (pos 0)))) one ∙ laid-rows (get_or p.strides 0 (pos 0)) r first d rows_fit.offered rows_fit.moves)

      ahead-all : Ahead cells s (rows ++ cells_from p z (n + r.count))
      ahead-all = subst (Ahead cells s) left k.ahead

      pub summing_rows : Ahead cells s (rows_from (get_or first 0 (pos 0)) (get_or d 0 (pos 0)) r.count (get_or p.strides 0 (pos 0)) r.length)
      summing_rows = ahead-first rows (cells_from p z (n + r.count)) ahead-all

      pub summing_next : {s' : Summary} → s' ≡ met cells s (rows_from (get_or first 0 (pos 0)) (get_or d 0 (pos 0)) r.count (get_or p.strides 0 (pos 0)) r.length)
          → Summing p z cells y w r.more s' at'
      summing_next e =
          rw e
          (record {
            n = n + r.count;
            summable = k.summable;
            walking = walking_next k.walking x;
            ahead = ahead-rest rows (cells_from p z (n + r.count)) ahead-all;
            goes = sym (met-append cells s rows (cells_from p z (n + r.count))) ∙ ap (met cells s) (sym left) ∙ k.goes;
          })

  -- at its end all cells are met
  pub summing_end : {y : Option Way} {w : List ℕ} {s : Summary} {at : State} → Summing p z cells y w false s at → s ≡ met cells nothing_met (visits_of p z)
  summing_end {s = s} k =
      ap (λ (l : List Placed). met cells s (over l (run_in (get_or p.strides 0 (pos 0))))) (sym (walking_over k.walking)) ∙ k.goes
