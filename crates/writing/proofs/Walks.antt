-- A plan's walk while its lines are measured and written, stretch by stretch: what is left of the output, and what the loop has counted.
-- Assumes nothing.
use mathlib.Core.Path.{◌≡◌, refl, sym, ap, ap₂, ◌∙◌, subst}
use mathlib.Core.Bool.{Bool, true, false}
use mathlib.Core.List.{List, [], ◌∷◌, ◌++◌, map, append_assoc}
use Rattle.std.specs.Prelude.{Option, None}
use Prim.Native.Nat.{ℕ, zero, suc, ◌+◌, ◌-◌, ◌*◌, ◌^◌, ◌≤◌, ◌<◌}
use native.Mathlib.Nat.{add-zero, zero-mul, suc-mul}
use native.Mathlib.Omega.{arith}
use lib.IntN.{ℤ, pos}
use lib.ListN.{length, drop, replicate, length-map, length-drop}
use Rattle.strided.specs.Base.{padded, run}
use Rattle.strided.specs.Layout.{has_zero}
use Rattle.strided.specs.Walk.{counters, Block, block_at}
use Rattle.strided.specs.Begin.{plan_extents, begin_refused, started}
use Rattle.strided.specs.Step.{plan_cut_axes}
use Rattle.strided.specs.Text.{block_line, block_lines, end_line, cells_of, plan_walk, zero_starts}
use Rattle.strided.specs.declared.Plan.{Plan}
use Rattle.strided.specs.declared.Walk.{Walk}
use Rattle.laws.specs.Base.Lists.{map-drop, length_run}
use Rattle.laws.specs.Base.Sums.{sum, sum-append}
use Rattle.laws.specs.Text.Totals.{walk-cells, begun_total, begun_placed}
use Rattle.laws.specs.Walk.Placed.{Placed, placed_from, placed_walk, placed-over}
use Rattle.laws.specs.Walk.Steps.{Ready, ready_sized}
use Rattle.advance.specs.Axis.{widths, starts_to}
use Rattle.advance.specs.Carry.{state_of}
use Rattle.advance.specs.declared.State.{State}
use Rattle.strided.specs.Memory.{walk_of}
use Rattle.walk.specs.Lent.{Taken}
use Rattle.walk.proofs.Stepping.{begun_taken}
use Rattle.walker.specs.declared.way.Way.{Way}
use Rattle.walker.specs.declared.Next.{Next}
use Rattle.walker.specs.Stretch.{Stretch, block_in, laid, told, RowsFit}
use Rattle.walker.specs.Way.{Leads, moves_of, Strides, Strode}
use Rattle.walker.proofs.Walked.{Walked, walked_none, walked_asks, walked_some, walked_next, walked_part, walked_fit, walked_within, walked_over}
use Rattle.writing.specs.Line.{figures_line}
use Rattle.writing.specs.Plan.{Printable, lines_from, rest_from}

-- ---- lines and lengths of blocks

lines_append : (n : ℕ) (xs ys : List Placed) → lines_from n (xs ++ ys) ≡ lines_from n xs ++ lines_from (n + length xs) ys
lines_append n [] ys = ap (λ (m : ℕ). lines_from m ys) (sym (add-zero n))
lines_append n (x ∷ xs) ys =
    let e : suc n + length xs ≡ n + suc (length xs) = omega arith in
    let l = block_line n x.length x.offsets in
    ap (λ (r : List ℕ). l ++ r) (lines_append (suc n) xs ys ∙ ap (λ (m : ℕ). lines_from (suc n) xs ++ lines_from m ys) e)
    ∙ sym (append_assoc l (lines_from (suc n) xs) (lines_from (n + suc (length xs)) ys))

-- how many cells blocks have
abbrev cells : List Placed → ℕ
cells l = sum l (λ (b : Placed). b.length)

alike : (S : Stretch) (n s : ℕ) → cells (map (block_in S) (run s n)) ≡ n * S.length
alike S zero s = sym (zero-mul S.length)
alike S (suc n) s = omega (arith, alike S n (suc s), suc-mul n S.length)

laid_cells : (S : Stretch) → cells (laid S) ≡ S.count * S.length
laid_cells S = alike S S.count 0

laid-many : (S : Stretch) → length (laid S) ≡ S.count
laid-many S = length-map (run 0 S.count) (block_in S) ∙ length_run 0 S.count

-- ---- the plan's blocks, as the text has them

module _ (p : Plan) where
  abbrev pub W : List Placed
  W = placed_walk p (zero_starts p)

  abbrev f : List ℕ → Placed
  f = placed_from p (zero_starts p)

  abbrev g : List ℕ → Block
  g = block_at (plan_cut_axes p)

  lines_are : (n : ℕ) (cs : List (List ℕ)) → block_lines p n (map g cs) ≡ lines_from n (map f cs)
  lines_are n [] = refl
  lines_are n (c ∷ cs) = ap (λ (l : List ℕ). block_line n (f c).length (f c).offsets ++ l) (lines_are (suc n) cs)

  cells_are : (cs : List (List ℕ)) → cells_of (map g cs) ≡ cells (map f cs)
  cells_are [] = refl
  cells_are (c ∷ cs) = ap (λ (n : ℕ). (f c).length + n) (cells_are cs)

  many : length (plan_walk p) ≡ length W
  many = length-map (counters (plan_cut_axes p)) g ∙ sym (length-map (counters (plan_cut_axes p)) f)

  rest_lines : (n : ℕ) → rest_from p n ≡ lines_from n (drop n W) ++ end_line (plan_walk p)
  unfolding rest_from
  rest_lines n =
      ap (λ (l : List ℕ). l ++ end_line (plan_walk p))
      (ap (block_lines p n) (sym (map-drop g n (counters (plan_cut_axes p)))) ∙ lines_are n (drop n (counters (plan_cut_axes p))) ∙ ap (lines_from n) (map-drop f n (counters (plan_cut_axes p))))

  -- no block is left: the Z line, with the figures that were counted
  rest_over : (n sum : ℕ) → drop n W ≡ [] → n ≤ length W → sum ≡ cells W → rest_from p n ≡ figures_line n sum
  rest_over n sum e h k =
      let l = length-drop n W in
      let m = many in
      let a : length (plan_walk p) ≡ n = omega (arith, ap length e, l, h, m) in
      rest_lines n ∙ ap (λ (l : List Placed). lines_from n l ++ end_line (plan_walk p)) e ∙ ap₂ figures_line a (cells_are (counters (plan_cut_axes p)) ∙ sym k)

  -- the walk has at most 2^64 - 1 cells, and no more blocks
  module _ (may : begin_refused p (zero_starts p) ≡ None) where
    cells_fit : cells W < 2 ^ 64
    cells_fit = let a = walk-cells p in let b = cells_are (counters (plan_cut_axes p)) in let d = begun_total p (zero_starts p) may in omega (arith, a, b, d)

    blocks_fit : length W < 2 ^ 64
    blocks_fit = begun_placed p (zero_starts p) may

-- ---- the walk's beginning, which the precondition allows

padded-zeros : (m n : ℕ) → padded m (pos 0) (replicate n (pos 0)) ≡ replicate m (pos 0)
padded-zeros zero n = refl
padded-zeros (suc m) zero = ap (λ (l : List ℤ). pos 0 ∷ l) (padded-zeros m 0)
padded-zeros (suc m) (suc n) = ap (λ (l : List ℤ). pos 0 ∷ l) (padded-zeros m n)

abbrev first : Bool → Walk
first ended = walk_of ended (replicate 64 0) (replicate 8 (pos 0))

module _ {p : Plan} (h : Printable p) where
  pub printable_ready : Ready p (zero_starts p)
  printable_ready = ready_sized p (zero_starts p) h.sized.extents-all h.begins

  begun : {ended : Bool} → ended ≡ has_zero (plan_extents p) → first ended ≡ started p (zero_starts p)
  begun e = (λ i. record { ended = e i; counters = replicate 64 0; offsets = sym (padded-zeros 8 p.operands) i })

  -- it has no block
  pub no_lines : {none : Bool} → none ≡ true → none ≡ has_zero (plan_extents p) → rest_from p 0 ≡ figures_line 0 0
  no_lines t e =
      let o : W p ≡ [] = placed-over p (zero_starts p) printable_ready 0 (ap (λ (w : Walk). w.ended) (sym (begun (sym t ∙ e)))) in
      rest_over p 0 0 o (omega arith) (sym (ap cells o))

  -- it has one
  module _ {none : Bool} (t : none ≡ false) (e : none ≡ has_zero (plan_extents p)) where
    pub first_taken : Taken p (walk_of false (replicate 64 0) (replicate 8 (pos 0)))
    first_taken = rw (begun (sym t ∙ e)) (begun_taken p (zero_starts p) printable_ready h.sized)

-- ---- the walk before block n: `sum` is that of the lengths before it

pub record Walks (p : Plan) (y : Option Way) (w : List ℕ) (n sum : ℕ) (more : Bool) (here : State) : Type 0 where
  pub printable : Printable p
  pub some : false ≡ has_zero (plan_extents p)
  pub walked : Walked p (walk_of false (replicate 64 0) (replicate 8 (pos 0))) y w n more here
  pub counted : sum + cells (drop n (W p)) ≡ cells (W p)

pub walks_start : {p : Plan} (h : Printable p) {none : Bool} → none ≡ false → none ≡ has_zero (plan_extents p) → {w : List ℕ} → w ≡ widths p → {y : Option Way} → Leads y p w
    → {here : State} → here ≡ state_of (starts_to w (replicate 64 0) p.rank) (replicate 64 0) (replicate 8 (pos 0)) → Walks p y w 0 0 true here
walks_start {p} h t e {w} is {y} l f =
    subst (λ (x : State). Walks p y w 0 0 true x) (sym f) (record { printable = h; some = sym t ∙ e; walked = walked_none is l (first_taken h t e) refl; counted = omega arith })

-- while it runs, by the loop's test
module _ {p : Plan} {y : Option Way} {w : List ℕ} {n sum : ℕ} {more : Bool} {here : State} (k : Walks p y w n sum more here) (t : more ≡ true) where
  runs : Walked p (walk_of false (replicate 64 0) (replicate 8 (pos 0))) y w n true here
  runs = rw t at k.walked

  pub walks_asks : Strides p w here
  walks_asks = walked_asks runs

  -- a stretch of it
  module _ {limit : ℕ} {r : Next} {first : List ℤ} {there : State} (x : Strode y limit p w here r first there)
      {d : List ℤ} (d-is : d ≡ moves_of y p) where
    abbrev S : Stretch
    S = told p.operands r first d

    pub walks_fit : RowsFit r.count p.operands d first
    walks_fit = walked_fit runs x d-is

    left : drop n (W p) ≡ laid S ++ drop (n + r.count) (W p)
    left = walked_part runs x d-is (printable_ready k.printable) (begun k.printable k.some)

    -- its lines come next
    pub walks_lines : rest_from p n ≡ lines_from n (laid S) ++ rest_from p (n + r.count)
    walks_lines =
        rest_lines p n
        ∙ ap (λ (l : List ℕ). l ++ end_line (plan_walk p)) (ap (lines_from n) left ∙ lines_append n (laid S) (drop (n + r.count) (W p)))
        ∙ append_assoc (lines_from n (laid S)) (lines_from (n + length (laid S)) (drop (n + r.count) (W p))) (end_line (plan_walk p))
        ∙ ap (λ (m : ℕ). lines_from n (laid S) ++ (lines_from (n + m) (drop (n + r.count) (W p)) ++ end_line (plan_walk p))) (laid-many S)
        ∙ ap (λ (l : List ℕ). lines_from n (laid S) ++ l) (sym (rest_lines p (n + r.count)))

    within : n + r.count ≤ length (W p)
    within = walked_within (walked_next runs x) (printable_ready k.printable) (begun k.printable k.some)

    counted_next : sum + r.count * r.length + cells (drop (n + r.count) (W p)) ≡ cells (W p)
    counted_next =
        let a = k.counted in
        let b = ap cells left in
        let e = sum-append (laid S) (drop (n + r.count) (W p)) (λ (z : Placed). z.length) in
        let g = laid_cells S in
        omega (arith, a, b, e, g)

    pub walks_next : Walks p y w (n + r.count) (sum + r.count * r.length) r.more there
    walks_next = record { printable = k.printable; some = k.some; walked = walked_next runs x; counted = counted_next }

    -- what is counted fits, and there is less to come
    pub walks_number_fits : n + r.count < 2 ^ 64
    walks_number_fits = let a = within in let b = blocks_fit p k.printable.begins in omega (arith, a, b)

    pub walks_cells-fit : sum + r.count * r.length < 2 ^ 64
    walks_cells-fit = let a = counted_next in let b = cells_fit p k.printable.begins in omega (arith, a, b)

    pub walks_less : 1 ≤ limit → length (W p) - (n + r.count) < length (W p) - n
    walks_less h = let a = within in let b = walked_some runs x h in omega (arith, a, b)

-- at its end only the Z line is left
pub walks_end : {p : Plan} {y : Option Way} {w : List ℕ} {n sum : ℕ} {more : Bool} {here : State} → Walks p y w n sum more here → more ≡ false → rest_from p n ≡ figures_line n sum
walks_end {p} {y} {w} {n = n} {sum = sum} {here = here} k t =
    let over : Walked p (walk_of false (replicate 64 0) (replicate 8 (pos 0))) y w n false here = rw t at k.walked in
    let r = printable_ready k.printable in
    let b = begun k.printable k.some in
    let e : drop n (W p) ≡ [] = walked_over over r b in
    let d = k.counted in
    let z : sum ≡ cells (W p) = omega (arith, ap cells e, d) in
    rest_over p n sum e (walked_within over r b) z
