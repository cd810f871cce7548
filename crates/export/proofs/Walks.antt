-- THE PLAN'S BLOCKS GIVE THE SAME BYTES: the cells of the blocks of the layout's plan, from the starts, are the cells of all indices, each of
-- them and no other. "The copy follows the P plan with operand 0 chosen": so it may.
-- Assumes nothing.
use Rattle.std.specs.Prelude.{◌≡◌, refl, true, ℤ, pos, nat_abs, ◌+ℤ◌, ◌-ℤ◌, ◌*ℤ◌, length, get_or, take, drop, None, Some}
use Rattle.std.proofs.Common.{sym, ap₂, ◌∙◌, inl, inr, ⊎_elim, mul-le-mul_left, div-mul-le_self, mul-zero, arith}
use Rattle.std.proofs.Math.Path.{ap, subst}
use mathlib.Core.List.{List, [], ◌∷◌}
use Prim.Native.Nat.{ℕ, zero, suc, ◌+◌, ◌-◌, ◌*◌, ◌/◌, ◌^◌, ◌≤◌, ◌<◌}
use Rattle.std.proofs.Math.IntN.{zero-*ℤ, -ℤ-+ℤ_cancel, +ℤ_comm, +ℤ_idr}
use Rattle.std.proofs.Math.ListN.{get_or-map}
use Rattle.strided.specs.Base.{over, run, nth}
use Rattle.strided.specs.Layout.{Within, stride_row, dot, extents, row}
use Rattle.strided.specs.Fuse.{plan_axes}
use Rattle.strided.specs.Index.{index_in_plan, original_index}
use Rattle.strided.specs.Walk.{CutAxis, ax, counters, cell_at, length_at, first_of, run_strides}
use Rattle.strided.specs.Begin.{plan_extents, plan_row, plan_rows, begin_refused}
use Rattle.strided.specs.Step.{offsets_from, plan_cut_axes}
use Rattle.strided.specs.Refusals.{planning_refused}
use Rattle.strided.specs.Plan.{plan_from, the_plan}
use Rattle.strided.specs.declared.Machine.{Machine}
use Rattle.strided.specs.declared.Purpose.{Purpose}
use Rattle.strided.specs.declared.Purpose.TheVariants.{PointwiseInto}
use Rattle.strided.specs.declared.Plan.{Plan}
use Rattle.laws.specs.Base.Lists.{get_d_run}
use Rattle.laws.specs.Base.Integers.{nat_abs_mul, nat_abs_zero}
use Rattle.laws.specs.Base.Layouts.{table_row}
use Rattle.laws.specs.Refusals.Accepted.{Accepted, accepted}
use Rattle.laws.specs.Refusals.Record.{planning_layout}
use Rattle.laws.specs.Plan.Bounds.{plan_few}
use Rattle.laws.specs.Text.Totals.{planned-extents}
use Rattle.laws.specs.Text.Begins.{planned_operands}
use Rattle.laws.specs.Fuse.Maps.{plan_in, orig_in, orig_plan, plan_orig, same-dot}
use Rattle.laws.specs.Walk.States.{Inside}
use Rattle.laws.specs.Walk.Cuts.{cut_inside}
use Rattle.laws.specs.Walk.Reach.{state-nth}
use Rattle.laws.specs.Walk.Places.{MeetsPlan, meets_inside, meets-all}
use Rattle.laws.specs.Walk.Offsets.{place_offset}
use Rattle.laws.specs.Walk.Placed.{Placed, placed_from, placed_walk}
use Rattle.laws.specs.Walk.Steps.{Ready, ready_sized, wide, as_many, rows-many, cut-many}
use Rattle.advance.specs.Sized.{whole_sized}
use Rattle.kernel.proofs.Plans.{planned_whole}
use Rattle.layout.specs.Lent.{Whole}
use Rattle.span.specs.Span.{in_cells}
use Rattle.cells.specs.Copy.{Pair, pair, In, copied, Clear}
use Rattle.cells.specs.Meaning.{by_lt, to_eq, from_eq}
use Rattle.cells.specs.Patches.{map_each, map_only, over_each, over_only, run_in_lem, run-within}
use Rattle.cells.specs.Offsets.{place_at}
use Rattle.cells.specs.Indexed.{Lists, lists_apart}
use Rattle.export.specs.Export.{offset_of, place_of, width_of, exported}
use Rattle.export.specs.Blocks.{along, offset_in, cell_in, block_cells, walk_cells, Copyable}
use Rattle.export.specs.Rows.{Clean}
use Rattle.export.proofs.Meaning.{into_cells, from-cells, none_shared, any_order}
use Rattle.export.specs.Steps.{step_small, none_time}

-- ---- members by their places in a list

pub nth_in : {A : Type 0} (l : List A) (m : ℕ) (x : A) → nth l m ≡ Some x → In x l
nth_in [] m x e = let z : ◌≡◌ {A = ℕ} 0 1 = cc e in absurd (omega arith)
nth_in (a ∷ l) zero x e = inl cc
nth_in (a ∷ l) (suc m) x e = inr (nth_in l m x e)

pub in_nth : {A : Type 0} (l : List A) (x : A) → In x l → (m : ℕ) × (nth l m ≡ Some x)
in_nth [] x i = absurd i
in_nth (a ∷ l) x (inl e) = (0, ap Some (sym e))
in_nth (a ∷ l) x (inr i) = let r = in_nth l x i in (suc r.0, r.1)

-- ---- the stride along a block is axis 0's; k is 0 at rank 0

first-at : (rank j : ℕ) (S : List ℤ) → 0 < rank → first_of (take rank (drop j S)) ≡ get_or S j (pos 0)
first-at zero j S h = absurd (let z : ⊥ = omega arith in z)
first-at (suc r) zero [] h = refl
first-at (suc r) zero (s ∷ S) h = refl
first-at (suc r) (suc j) [] h = refl
first-at (suc r) (suc j) (s ∷ S) h = first-at (suc r) j S h

along_any : (axs : List CutAxis) (c : List ℕ) (k j rank : ℕ) (S : List ℤ) (tss : List (List ℤ)) → length axs ≡ rank → k < length_at axs c
    → get_or tss j [] ≡ take rank (drop (j * 64) S) → pos k *ℤ get_or (run_strides axs tss) j (pos 0) ≡ pos k *ℤ get_or S (j * 64) (pos 0)
along_any [] c k j rank S tss l b e =
    let z : k ≡ 0 = omega arith in
    rw z (zero-*ℤ (pos 0) ∙ sym (zero-*ℤ (get_or S (j * 64) (pos 0))))
along_any (a ∷ axs) c k j rank S tss l b e =
    ap (λ (t : ℤ). pos k *ℤ t) (get_or-map first_of tss j [] ∙ ap first_of e ∙ first-at rank (j * 64) S (let h : 0 < rank = omega (arith, l) in h))

-- a plan whose extents and strides are those of the layout's plan, ready to begin at the starts
module _ (es sizes : List ℕ) (ss : List ℤ) (u : Purpose) (p : Plan) (zs : List ℤ) (hs : length ss ≡ length es * length sizes)
    (r : Ready p zs) (fo : p.operands ≡ length sizes)
    (fe : plan_extents p ≡ extents (plan_axes es (length sizes) ss u))
    (ft : (k : ℕ) → k < length sizes → plan_row p k ≡ row k (plan_axes es (length sizes) ss u)) where
  abbrev ls : List CutAxis
  ls = plan_cut_axes p

  abbrev M : ℕ
  M = length sizes

  -- operand j's row
  row-at : (j : ℕ) → j < length sizes → get_or (plan_rows p) j [] ≡ plan_row p j
  row-at j h = get_d_run (plan_row p) [] p.operands 0 j (let g : j < p.operands = omega (arith, fo, h) in g) ∙ ap (plan_row p) (let z : 0 + j ≡ j = omega arith in z)

  along_is : (c : List ℕ) (k j : ℕ) → j < length sizes → k < length_at (plan_cut_axes p) c → pos k *ℤ get_or (run_strides (plan_cut_axes p) (plan_rows p)) j (pos 0) ≡ pos k *ℤ along p.strides j
  along_is c k j h b = along_any (plan_cut_axes p) c k j p.rank p.strides (plan_rows p) (cut-many p zs r) b (row-at j h)

  -- the offset at cell k of the block at c is that of the original index
  offset_is : (c : List ℕ) (k j : ℕ) → j < length sizes → k < length_at (plan_cut_axes p) c → Within (extents (plan_axes es (length sizes) ss u)) (cell_at c k)
      → offset_in p.strides (placed_from p zs c) j k ≡ get_or zs j (pos 0) +ℤ dot (original_index es (length sizes) ss u (cell_at c k)) (stride_row ss (length es) j)
  offset_is c k j h b v =
      let z : ℤ = get_or zs j (pos 0) in
      let o : ℤ = get_or (offsets_from (plan_rows p) zs c) j (pos 0) in
      let t : ℤ = get_or (run_strides ls (plan_rows p)) j (pos 0) in
      let d : o +ℤ pos k *ℤ t -ℤ z ≡ dot (cell_at c k) (get_or (plan_rows p) j []) = place_offset ls (plan_rows p) zs c k j (as_many p zs r) (let g : j < length (plan_rows p) = omega (arith, rows-many p zs r, fo, h) in g) b in
      let e : dot (cell_at c k) (get_or (plan_rows p) j []) ≡ dot (original_index es M ss u (cell_at c k)) (stride_row ss (length es) j) =
      ap (dot (cell_at c k)) (row-at j h ∙ ft j h) ∙ same-dot es M ss u (cell_at c k) v hs j h in
      ap (λ (y : ℤ). o +ℤ y) (sym (along_is c k j h b))
      ∙ sym (-ℤ-+ℤ_cancel (o +ℤ pos k *ℤ t) z)
      ∙ ap (λ (y : ℤ). y +ℤ z) (d ∙ e)
      ∙ +ℤ_comm (dot (original_index es M ss u (cell_at c k)) (stride_row ss (length es) j)) z

  inside : (y : List ℕ) → Inside (plan_cut_axes p) y → Within (extents (plan_axes es (length sizes) ss u)) y
  inside y i = subst (λ (l : List ℕ). Within l y) fe ((cut_inside (plan_extents p) _ y).0 i)

  -- WHAT STANDS IN A BLOCK: cell k of the block at c is the cell of an original index
  pub cell_index : (c : List ℕ) → In c (counters (plan_cut_axes p)) → (k : ℕ) → k < length_at (plan_cut_axes p) c
      → (x : List ℕ) × Within es x × ((j : ℕ) → j < length sizes → offset_in p.strides (placed_from p zs c) j k ≡ get_or zs j (pos 0) +ℤ dot x (stride_row ss (length es) j))
      × (index_in_plan es (length sizes) ss u x ≡ cell_at c k)
  cell_index c i k b =
      let n = in_nth (counters ls) c i in
      let m : MeetsPlan ls n.0 k (cell_at c k) = record { c = c; state = state-nth ls (wide p zs r) n.0 ∙ n.1; below = b; index = refl } in
      let v = inside (cell_at c k) (meets_inside ls (wide p zs r) n.0 k (cell_at c k) m) in
      (original_index es M ss u (cell_at c k), orig_in es M ss u (cell_at c k) v, (λ j h. offset_is c k j h b v), plan_orig es M ss u (cell_at c k) v)

  -- and every original index stands in one
  pub index_cell : (x : List ℕ) → Within es x
      → (c : List ℕ) × In c (counters (plan_cut_axes p)) × (k : ℕ) × (k < length_at (plan_cut_axes p) c)
      × ((j : ℕ) → j < length sizes → offset_in p.strides (placed_from p zs c) j k ≡ get_or zs j (pos 0) +ℤ dot x (stride_row ss (length es) j))
  index_cell x w =
      let y : List ℕ = index_in_plan es M ss u x in
      let v : Within (extents (plan_axes es M ss u)) y = plan_in es M ss u x w in
      let q = meets-all ls (wide p zs r) y ((cut_inside (plan_extents p) _ y).1 (subst (λ (l : List ℕ). Within l y) (sym fe) v)) in
      let m = q.2 in
      let e : cell_at m.c q.1 ≡ y = sym m.index in (
        m.c,
        nth_in (counters ls) q.0 m.c (sym (state-nth ls (wide p zs r) q.0) ∙ m.state),
        q.1,
        m.below,
        λ j h. offset_is m.c q.1 j h m.below (subst (Within (extents (plan_axes es M ss u))) (sym e) v)
            ∙ ap (λ (i : List ℕ). get_or zs j (pos 0) +ℤ dot i (stride_row ss (length es) j)) (ap (original_index es M ss u) e ∙ orig_plan es M ss u x w),
      )

  -- THE CELLS OF THE WALK are those of all indices
  module _ (w : ℕ) (two : length sizes ≡ 2) where
    pub walk_lists : Lists (Within es) (λ x. place_at w (get_or zs 0 (pos 0) +ℤ dot x (stride_row ss (length es) 0)))
        (λ x. place_at w (get_or zs 1 (pos 0) +ℤ dot x (stride_row ss (length es) 1))) (walk_cells w p zs)
    unfolding walk_cells
    walk_lists = record { each = each; only = only }
      where
        each : (x : List ℕ) → Within es x
            → In (pair (place_at w (get_or zs 0 (pos 0) +ℤ dot x (stride_row ss (length es) 0))) (place_at w (get_or zs 1 (pos 0) +ℤ dot x (stride_row ss (length es) 1)))) (over (placed_walk p zs) (block_cells w p.strides))
        each x v =
            let q = index_cell x v in
            let b : Placed = placed_from p zs q.0 in
            let k : ℕ = q.2 in
            subst (λ (c : Pair). In c (over (placed_walk p zs) (block_cells w p.strides)))
            (ap₂ (λ (d s : ℤ). pair (place_at w d) (place_at w s)) (q.4 0 (omega (arith, two))) (q.4 1 (omega (arith, two))))
            (over_each (cell_in w p.strides b k) (placed_walk p zs) (block_cells w p.strides) b (map_each (placed_from p zs) (counters ls) q.0 q.1)
            (map_each (cell_in w p.strides b) (run 0 b.length) k (run_in_lem b.length 0 k (omega arith) (let h = q.3 in omega (arith, h)))))

        only : (d s : ℕ) → In (pair d s) (over (placed_walk p zs) (block_cells w p.strides))
            → (x : List ℕ) × Within es x × (d ≡ place_at w (get_or zs 0 (pos 0) +ℤ dot x (stride_row ss (length es) 0))) × (s ≡ place_at w (get_or zs 1 (pos 0) +ℤ dot x (stride_row ss (length es) 1)))
        only d s i =
            let o = over_only (pair d s) (placed_walk p zs) (block_cells w p.strides) i in
            let n = map_only (placed_from p zs) (counters ls) o.0 o.1 in
            let m : In (pair d s) (block_cells w p.strides (placed_from p zs n.0)) = subst (λ (b : Placed). In (pair d s) (block_cells w p.strides b)) n.2 o.2 in
            let g = map_only (cell_in w p.strides (placed_from p zs n.0)) (run 0 (length_at ls n.0)) (pair d s) m in
            let b : g.0 < 0 + length_at ls n.0 = (run-within (length_at ls n.0) 0 g.0 g.1).1 in
            let q = cell_index n.0 n.1 g.0 (let h : g.0 < length_at ls n.0 = omega (arith, b) in h) in
            (q.0, q.1, to_eq g.2 ∙ ap (place_at w) (q.2 0 (omega (arith, two))), from_eq g.2 ∙ ap (place_at w) (q.2 1 (omega (arith, two))))

-- ---- along a block

stays : (o t : ℤ) (i : ℕ) → t ≡ pos 0 → o +ℤ pos i *ℤ t ≡ o
stays o t i z = ap (λ (y : ℤ). o +ℤ pos i *ℤ y) z ∙ ap (λ (n : ℕ). o +ℤ pos n) (mul-zero i) ∙ +ℤ_idr o

cells_differ : (axs : List CutAxis) (d : List ℕ) → 1 < length_at axs d → cell_at d 0 ≡ cell_at d 1 → ⊥
cells_differ [] d h e = absurd (let z : ⊥ = omega arith in z)
cells_differ (ax n w ∷ axs) [] h e = absurd (let z : ⊥ = omega arith in z)
cells_differ (ax n w ∷ axs) (s ∷ v) h e = let q : s + 0 ≡ s + 1 = cc e in absurd (let z : ⊥ = omega arith in z)

not_clear : (w a b : ℕ) → 1 ≤ w → a ≡ b → Clear w a b → ⊥
not_clear w a b h e (inl l) = absurd (let z : ⊥ = omega arith in z)
not_clear w a b h e (inr l) = absurd (let z : ⊥ = omega arith in z)

few-cells : (l a w to : ℕ) → (l - 1) * a < to / w → (a ≡ 0 → ⊥) → 1 ≤ w → to < 2 ^ 63 → l < 2 ^ 63
few-cells l a w to h n s f =
    let p : (l - 1) * 1 ≤ (l - 1) * a = mul-le-mul_left (l - 1) (let g : 1 ≤ a = omega (arith, n) in g) in
    let q : to / w * 1 ≤ to / w * w = mul-le-mul_left (to / w) s in
    let r : to / w * w ≤ to = div-mul-le_self to w in
    omega (arith, p, q, r, h, f)

-- ---- the plan that planning hands out, with operand 0 chosen

module _ (mc : Machine) (es sizes : List ℕ) (ss : List ℤ) (hp : planning_refused mc es sizes ss (PointwiseInto 0) ≡ None) where
  -- "the P plan with operand 0 chosen"
  abbrev pub p_plan : Plan
  p_plan = the_plan mc es sizes ss (PointwiseInto 0)

  taken : Accepted es sizes ss (PointwiseInto 0)
  taken = accepted es sizes ss (PointwiseInto 0) (planning_layout mc es sizes ss (PointwiseInto 0) hp)

  rows_are : (k : ℕ) → k < length sizes → plan_row p_plan k ≡ row k (plan_axes es (length sizes) ss (PointwiseInto 0))
  unfolding plan_from
  rows_are k l =
      table_row (plan_axes es (length sizes) ss (PointwiseInto 0)) (length sizes) k (plan_few es sizes ss (PointwiseInto 0) taken) taken.few l

  extents_are : plan_extents p_plan ≡ extents (plan_axes es (length sizes) ss (PointwiseInto 0))
  extents_are = planned-extents mc es sizes ss (PointwiseInto 0) hp

  -- it may be lent
  plan_lent : Whole p_plan
  plan_lent = planned_whole mc es sizes ss (PointwiseInto 0) hp

  pub plan_ready : (zs : List ℤ) → begin_refused p_plan zs ≡ None → Ready p_plan zs
  plan_ready zs b = ready_sized p_plan zs plan_lent.extents-all b

  module _ (zs : List ℤ) (b : begin_refused p_plan zs ≡ None) where
    -- what stands in a block of it
    pub plan_cell : (c : List ℕ) → In c (counters (plan_cut_axes p_plan)) → (k : ℕ) → k < length_at (plan_cut_axes p_plan) c
        → (x : List ℕ) × Within es x × ((j : ℕ) → j < length sizes → offset_in p_plan.strides (placed_from p_plan zs c) j k ≡ offset_of es ss zs j x)
        × (index_in_plan es (length sizes) ss (PointwiseInto 0) x ≡ cell_at c k)
    plan_cell = cell_index es sizes ss (PointwiseInto 0) p_plan zs taken.strides (plan_ready zs b) (planned_operands mc es sizes ss (PointwiseInto 0) hp) extents_are rows_are

    module _ (to from : ℕ) (c : Clean es sizes ss zs to from) where
      pub plan_lists : Lists (Within es) (place_of es sizes ss zs 0) (place_of es sizes ss zs 1) (walk_cells (width_of sizes) p_plan zs)
      plan_lists =
          subst (λ (n : ℕ). Lists (Within es) (place_of es sizes ss zs 0) (λ x. place_at n (offset_of es ss zs 1 x)) (walk_cells (width_of sizes) p_plan zs)) c.same
          (walk_lists es sizes ss (PointwiseInto 0) p_plan zs taken.strides (plan_ready zs b) (planned_operands mc es sizes ss (PointwiseInto 0) hp) extents_are rows_are (width_of sizes) c.two)

      -- cell i of a block is one of those that the buffers have room for
      into_block : (d : List ℕ) → In d (counters (plan_cut_axes p_plan)) → (i : ℕ) → i < length_at (plan_cut_axes p_plan) d
          → in_cells (to / width_of sizes) (offset_in p_plan.strides (placed_from p_plan zs d) 0 i) ≡ true
      into_block d m i h =
          let q = plan_cell d m i h in
          ap (in_cells (to / width_of sizes)) (q.2 0 (let t = c.two in omega (arith, t))) ∙ into_cells es sizes ss zs to from taken.strides c q.0 q.1

      from_block : (d : List ℕ) → In d (counters (plan_cut_axes p_plan)) → (i : ℕ) → i < length_at (plan_cut_axes p_plan) d
          → in_cells (from / width_of sizes) (offset_in p_plan.strides (placed_from p_plan zs d) 1 i) ≡ true
      from_block d m i h =
          let q = plan_cell d m i h in
          ap (in_cells (from / width_of sizes)) (q.2 1 (let t = c.two in omega (arith, t))) ∙ from-cells es sizes ss zs to from taken.strides c q.0 q.1

      -- two cells of a block are two indices, so the destination moves along it
      block_moves : (d : List ℕ) → In d (counters (plan_cut_axes p_plan)) → 1 < length_at (plan_cut_axes p_plan) d → nat_abs (along p_plan.strides 0) ≡ 0 → ⊥
      block_moves d m h n =
          let a = plan_cell d m 0 (omega (arith, h)) in
          let q = plan_cell d m 1 h in
          let two : 0 < length sizes = (let t = c.two in omega (arith, t)) in
          let o : ℤ = get_or (placed_from p_plan zs d).offsets 0 (pos 0) in
          let t : ℤ = along p_plan.strides 0 in
          let z : t ≡ pos 0 = nat_abs_zero t n in
          let e : offset_of es ss zs 0 a.0 ≡ offset_of es ss zs 0 q.0 = sym (a.2 0 two) ∙ stays o t 0 z ∙ sym (stays o t 1 z) ∙ q.2 0 two in
          ⊎_elim
          (λ (s : a.0 ≡ q.0). cells_differ (plan_cut_axes p_plan) d h (sym a.3 ∙ ap (index_in_plan es (length sizes) ss (PointwiseInto 0)) s ∙ q.3))
          (λ s. not_clear (width_of sizes) (place_of es sizes ss zs 0 a.0) (place_of es sizes ss zs 0 q.0) c.some (ap (place_at (width_of sizes)) e) s)
          (none_shared es sizes ss zs to from taken.strides c a.0 q.0 a.1 q.1)

      -- so no block is as long as 2^63
      block_short : to < 2 ^ 63 → (d : List ℕ) → In d (counters (plan_cut_axes p_plan)) → length_at (plan_cut_axes p_plan) d < 2 ^ 63
      block_short f d m =
          by_lt 1 (length_at (plan_cut_axes p_plan) d)
          (λ h.
          let o : ℤ = get_or (placed_from p_plan zs d).offsets 0 (pos 0) in
          let t : ℤ = along p_plan.strides 0 in
          let l : ℕ = length_at (plan_cut_axes p_plan) d in
          let n : ℕ = to / width_of sizes in
          let first : in_cells n o ≡ true = ap (in_cells n) (sym (none_time o t)) ∙ into_block d m 0 (omega (arith, h)) in
          let s : nat_abs (pos (l - 1) *ℤ t) < n = step_small n o (pos (l - 1) *ℤ t) first (into_block d m (l - 1) (omega (arith, h))) in
          few-cells l (nat_abs t) (width_of sizes) to (subst (λ (k : ℕ). k < to / width_of sizes) (nat_abs_mul (l - 1) t) s) (block_moves d m h) c.some f)
          (λ h. omega (arith, h))

      -- WHAT THE WALK'S COPY ASKS
      pub plan_copyable : to < 2 ^ 63 → Copyable p_plan zs (width_of sizes) to from
      plan_copyable f =
          record {
            sized = whole_sized plan_lent;
            begins = b;
            two = planned_operands mc es sizes ss (PointwiseInto 0) hp ∙ c.two;
            into = into_block;
            out = from_block;
            short = block_short f;
            apart = lists_apart (Within es) (place_of es sizes ss zs 0) (place_of es sizes ss zs 1) (width_of sizes) (walk_cells (width_of sizes) p_plan zs) plan_lists (none_shared es sizes ss zs to from taken.strides c);
          }

    -- THE BLOCKS OF THE PLAN, copied in the plan's order, give the destination that the indices say
    pub walk-exported : (dst src : List ℕ) (c : Clean es sizes ss zs (length dst) (length src))
        → copied (width_of sizes) (walk_cells (width_of sizes) p_plan zs) dst src ≡ exported es sizes ss zs dst src
    walk-exported dst src c = any_order es sizes ss zs dst src taken.strides c (walk_cells (width_of sizes) p_plan zs) (plan_lists (length dst) (length src) c)
