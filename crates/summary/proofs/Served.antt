-- A layout of one operand that planning does not refuse: its walk begins exactly if row 9 passes, and where row 22 passes too every cell that is
-- met lies in the slice. And the rows, as the code tells them.
-- Assumes nothing.
use Rattle.std.specs.Prelude.{◌≡◌, refl, Bool, true, false, cond, List, [], ◌∷◌, ℕ, ◌^◌, ◌≤◌, ◌<◌, ℤ, pos, negsuc, ◌+ℤ◌, Float, length, get_or, take, drop, Option, None, Some, Ok, Err, Result}
use Rattle.std.proofs.Common.{sym, ◌∙◌, subst, true≢false, mul-one, zero-mul, arith, take_all, ltb-true, lt-ltb}
use Rattle.std.proofs.Math.Path.{ap}
use Rattle.std.proofs.lemmas.Bool.{false≢true}
use Rattle.strided.specs.Layout.{NoZero, Within, in_i64, dot, reach, max_i, extents, row, stride_row}
use Rattle.strided.specs.Refusals.{refused_by, planning_rows, planning_refused, row9, served_unless}
use Rattle.strided.specs.Fuse.{plan_axes}
use Rattle.strided.specs.Index.{original_index}
use Rattle.strided.specs.Plan.{plan_from}
use Rattle.strided.specs.Begin.{plan_extents, plan_row, begin_refused, begun_at}
use Rattle.strided.specs.Memory.{plan_of}
use Rattle.strided.specs.declared.Machine.{Machine}
use Rattle.strided.specs.declared.Refusal.{Refusal}
use Rattle.strided.specs.declared.Refusal.TheVariants.{Offsets, Slice}
use Rattle.strided.specs.declared.Plan.{Plan}
use Rattle.strided.specs.declared.Walk.{Walk}
use Rattle.laws.specs.Base.Layouts.{table_row, within-total, total_nozero}
use Rattle.laws.specs.Base.Lists.{All, all_map}
use Rattle.laws.specs.Fuse.Maps.{plan_nozero, orig_in, same-dot}
use Rattle.laws.specs.Plan.Begins.{begins_to, begins_from, begins_offsets}
use Rattle.laws.specs.Plan.Bounds.{plan_few}
use Rattle.laws.specs.Refusals.Accepted.{Accepted, accepted}
use Rattle.laws.specs.Refusals.Record.{planning_layout}
use Rattle.laws.specs.Refusals.Rows.{rows_refuse, rows_pass, served_none, refused_some}
use Rattle.laws.specs.Text.Totals.{planned-extents}
use Rattle.laws.specs.Walk.Row9.{row9-leaves}
use Rattle.advance.specs.Sized.{Sized, whole_sized}
use Rattle.kernel.specs.Made.{Made}
use Rattle.kernel.proofs.Plans.{planned_whole}
use Rattle.span.specs.Span.{Spans, in_cells, outside}
use Rattle.span.specs.Exact.{all-cells}
use Rattle.summary.specs.declared.cell.Summary.{Summary}
use Rattle.summary.specs.Sums.{nothing_met, summary_of}
use Rattle.summary.specs.Visits.{cell_sizes, ordering, summary_plan, indices_of, offset_at, visits_of, visits}
use Rattle.summary.specs.Indices.{indices-within}
use Rattle.summary.specs.Ahead.{Summable, met}
use Rattle.summary.specs.Rows.{row22, summary_refused, cells_met, summarized}

-- the offset of a cell is a number of 64 bits
in_64 : (n : ℕ) (o : ℤ) → n ≤ 2 ^ 63 → in_cells n o ≡ true → in_i64 o ≡ true
in_64 n (pos k) l h = let b = ltb-true k n h in lt-ltb k (2 ^ 63) (omega (arith, b, l))
in_64 n (negsuc k) l h = absurd (false≢true h)

module _ (mc : Machine) (es : List ℕ) (ss : List ℤ) where
  -- the rows before 9 are planning's
  pub planning_rows_lem : (z : ℤ) (n : ℕ) (r : Refusal) → planning_refused mc es cell_sizes ss ordering ≡ Some r → summary_refused mc es ss z n ≡ Some r
  unfolding summary_refused planning_refused
  planning_rows_lem z n r h = rows_refuse (planning_rows mc es cell_sizes ss ordering) (row9 es 1 (stride_row ss (length es)) (z ∷ []) ∷ row22 es (stride_row ss (length es) 0) z n ∷ []) r h

  pub behind_rows : (z : ℤ) (n : ℕ) → planning_refused mc es cell_sizes ss ordering ≡ None
      → summary_refused mc es ss z n ≡ refused_by (row9 es 1 (stride_row ss (length es)) (z ∷ []) ∷ row22 es (stride_row ss (length es) 0) z n ∷ [])
  unfolding summary_refused planning_refused
  behind_rows z n h = rows_pass (planning_rows mc es cell_sizes ss ordering) (row9 es 1 (stride_row ss (length es)) (z ∷ []) ∷ row22 es (stride_row ss (length es) 0) z n ∷ []) h

  module _ (h : planning_refused mc es cell_sizes ss ordering ≡ None) where
    a : Accepted es cell_sizes ss ordering
    a = accepted es cell_sizes ss ordering (planning_layout mc es cell_sizes ss ordering h)

    pub strides_long : length ss ≡ length es
    strides_long = a.strides ∙ mul-one (length es)

    -- its strides are all that is lent
    pub one-row : stride_row ss (length es) 0 ≡ ss
    one-row =
        ap (λ (k : ℕ). take (length es) (drop k ss)) (zero-mul (length es)) ∙ take_all (length es) ss (omega (arith, strides_long))

    pub spans : Spans es ss
    spans = record { long = strides_long; near = λ z. subst (λ (ts : List ℤ). reach es ts ≤ max_i) one-row (a.near z 0 (omega arith)) }

    abbrev P : Plan
    P = summary_plan mc es ss

    plan_row_lem : plan_row P 0 ≡ row 0 (plan_axes es 1 ss ordering)
    unfolding plan_from
    plan_row_lem = table_row (plan_axes es 1 ss ordering) 1 0 (plan_few es cell_sizes ss ordering a) (omega arith) (omega arith)

    -- the offset of a plan's index is that of the index of the layout that it stands for
    pub same_offset : (y : List ℕ) → Within (plan_extents (summary_plan mc es ss)) y
        → (NoZero es) × Within es (original_index es 1 ss ordering y) × (dot y (plan_row (summary_plan mc es ss) 0) ≡ dot (original_index es 1 ss ordering y) ss)
    same_offset y w =
        let v : Within (extents (plan_axes es 1 ss ordering)) y = subst (λ (l : List ℕ). Within l y) (planned-extents mc es cell_sizes ss ordering h) w in (
          plan_nozero es 1 ss ordering y v,
          orig_in es 1 ss ordering y v,
          ap (dot y) plan_row_lem ∙ same-dot es 1 ss ordering y v a.strides 0 (omega arith) ∙ ap (dot (original_index es 1 ss ordering y)) one-row,
        )

    -- row 22 passes: every cell that is met lies in the slice
    pub visits_inside : (z : ℤ) (n : ℕ) → outside es ss z n ≡ false → All (λ (o : ℤ). in_cells n o ≡ true) (visits_of (summary_plan mc es ss) z)
    visits_inside z n q =
        all_map (Within (plan_extents P)) (λ (o : ℤ). in_cells n o ≡ true) (offset_at P z) (indices_of P)
        (λ y w. let s = same_offset y w in
        ap (λ (d : ℤ). in_cells n (z +ℤ d)) s.2 ∙ all-cells es ss z n strides_long s.0 q (original_index es 1 ss ordering y) s.1)
        (indices-within P)

    -- the walk begins exactly if row 9 passes
    pub begins_if : (z : ℤ) → begin_refused (summary_plan mc es ss) (z ∷ []) ≡ None → (row9 es 1 (stride_row ss (length es)) (z ∷ [])).applies ≡ false
    begins_if z b = (begins_to mc es cell_sizes ss ordering h P.blocks (z ∷ []) b).1

    pub if_begins : (z : ℤ) → (row9 es 1 (stride_row ss (length es)) (z ∷ [])).applies ≡ false → begin_refused (summary_plan mc es ss) (z ∷ []) ≡ None
    if_begins z q = begins_from mc es cell_sizes ss ordering h P.blocks (z ∷ []) refl q

    -- where row 22 passes row 9 does: the offset of a cell is a number of 64 bits
    pub inside_stays : (z : ℤ) (n : ℕ) → n ≤ 2 ^ 63 → outside es ss z n ≡ false → (row9 es 1 (stride_row ss (length es)) (z ∷ [])).applies ≡ false
    inside_stays z n l q = go (row9 es 1 (stride_row ss (length es)) (z ∷ [])).applies refl
      where
        rows : (k : ℕ) → k < 1 → length (stride_row ss (length es) k) ≡ length es
        rows k b = let e : k ≡ 0 = omega arith in ap (λ (j : ℕ). length (stride_row ss (length es) j)) e ∙ ap length one-row ∙ strides_long

        go : (b : Bool) → (row9 es 1 (stride_row ss (length es)) (z ∷ [])).applies ≡ b → b ≡ false
        go false e = refl
        go true e =
            let o = (row9-leaves es 1 (stride_row ss (length es)) (z ∷ []) rows).0 e in
            let k : o.operand ≡ 0 = omega (arith, o.there) in
            let t = all-cells es ss z n strides_long (total_nozero es (within-total es o.index o.inside)) q o.index o.inside in
            let f : in_i64 (z +ℤ dot o.index (stride_row ss (length es) 0)) ≡ false =
            subst (λ (j : ℕ). in_i64 (get_or (z ∷ []) j (pos 0) +ℤ dot o.index (stride_row ss (length es) j)) ≡ false) k o.outside in
            absurd (true≢false (sym (in_64 n (z +ℤ dot o.index ss) l t) ∙ ap (λ (ts : List ℤ). in_i64 (z +ℤ dot o.index ts)) (sym one-row) ∙ f))

    pub plan_sized : Sized (summary_plan mc es ss)
    plan_sized = whole_sized (planned_whole mc es cell_sizes ss ordering h)

    -- so all may be met
    pub summable : (z : ℤ) (cells : List Float) → begin_refused (summary_plan mc es ss) (z ∷ []) ≡ None → outside es ss z (length cells) ≡ false → Summable (summary_plan mc es ss) z cells
    summable z cells b q = record { sized = plan_sized; begins = b; inside = visits_inside z (length cells) q }

    -- the plan as it is made
    pub made_plan : (rank : ℕ) (E B : List ℕ) (S : List ℤ) → Made mc es cell_sizes ss ordering rank E B S → plan_of rank 1 E B S ≡ summary_plan mc es ss
    made_plan rank E B S m = m.is

    -- a walk that begins, and one that does not
    module _ {rank : ℕ} {E B : List ℕ} {S : List ℤ} (m : Made mc es cell_sizes ss ordering rank E B S) (z : ℤ) {b : Result Walk Refusal} (is : b ≡ begun_at (plan_of rank 1 E B S) (z ∷ [])) where
      of_plan : b ≡ begun_at (summary_plan mc es ss) (z ∷ [])
      of_plan = is ∙ ap (λ (p : Plan). begun_at p (z ∷ [])) (made_plan rank E B S m)

      pub begun_taken : {w : Walk} → b ≡ Ok w → begin_refused (summary_plan mc es ss) (z ∷ []) ≡ None
      unfolding begun_at
      begun_taken q = served_none (begin_refused P (z ∷ [])) _ (sym of_plan ∙ q)

      pub begun-refused : {r : Refusal} → b ≡ Err r → (r ≡ Offsets) × ((row9 es 1 (stride_row ss (length es)) (z ∷ [])).applies ≡ true)
      unfolding begun_at
      begun-refused {r} q = (begins_offsets mc es cell_sizes ss ordering h (z ∷ []) refl r some, go (row9 es 1 (stride_row ss (length es)) (z ∷ [])).applies refl)
        where
          some : begin_refused (summary_plan mc es ss) (z ∷ []) ≡ Some r
          some = refused_some (begin_refused P (z ∷ [])) _ (sym of_plan ∙ q)

          go : (t : Bool) → (row9 es 1 (stride_row ss (length es)) (z ∷ [])).applies ≡ t → (row9 es 1 (stride_row ss (length es)) (z ∷ [])).applies ≡ true
          go true e = e
          go false e = let n : None ≡ Some r = sym (if_begins z e) ∙ some in cc n

    -- ---- what is answered

    module _ (z : ℤ) (cells : List Float) where
      pub refused_9 : (row9 es 1 (stride_row ss (length es)) (z ∷ [])).applies ≡ true → summary_refused mc es ss z (length cells) ≡ Some Offsets
      refused_9 q = behind_rows z (length cells) h ∙ rw q

      module _ (nine : (row9 es 1 (stride_row ss (length es)) (z ∷ [])).applies ≡ false) where
        behind_9 : (b : Bool) → outside es ss z (length cells) ≡ b → summary_refused mc es ss z (length cells) ≡ cond b (Some Slice) None
        behind_9 b q = behind_rows z (length cells) h ∙ rw (nine, one-row, q)

        pub refused_22 : outside es ss z (length cells) ≡ true → summary_refused mc es ss z (length cells) ≡ Some Slice
        refused_22 = behind_9 true

        pub not-refused : outside es ss z (length cells) ≡ false → summary_refused mc es ss z (length cells) ≡ None
        not-refused = behind_9 false

-- all cells of the plan's walk, met
pub all_summed : (mc : Machine) (es : List ℕ) (ss : List ℤ) (z : ℤ) (cells : List Float) → met cells nothing_met (visits_of (summary_plan mc es ss) z) ≡ summary_of (cells_met mc es ss z cells)
unfolding summary_of visits
all_summed mc es ss z cells = refl

pub refused_with : (mc : Machine) (es : List ℕ) (ss : List ℤ) (z : ℤ) (cells : List Float) (r : Refusal) → summary_refused mc es ss z (length cells) ≡ Some r
    → Err r ≡ summarized mc es ss z cells
unfolding summarized
refused_with mc es ss z cells r h = ap (λ (o : Option Refusal). served_unless o (summary_of (cells_met mc es ss z cells))) (sym h)

pub served_with : (mc : Machine) (es : List ℕ) (ss : List ℤ) (z : ℤ) (cells : List Float) → summary_refused mc es ss z (length cells) ≡ None
    → {s : Summary} → s ≡ summary_of (cells_met mc es ss z cells) → Ok s ≡ summarized mc es ss z cells
unfolding summarized
served_with mc es ss z cells h q =
    ap (λ (s : Summary). Ok s) q ∙ ap (λ (o : Option Refusal). served_unless o (summary_of (cells_met mc es ss z cells))) (sym h)
