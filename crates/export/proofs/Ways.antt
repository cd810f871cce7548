-- The ways out of a copy that planning does not refuse: rows 8 and 9, rows 16 to 18, and the cells copied, at once or by the plan.
-- Assumes nothing.
use mathlib.Core.Path.{◌≡◌, refl, sym, ap, ap₂, ◌∙◌, subst}
use mathlib.Core.Bool.{Bool, true, false, cond, not}
use mathlib.Core.List.{List, ◌∷◌}
use Rattle.std.specs.Prelude.{None, Some, Ok, Err, Result}
use Prim.Native.Nat.{ℕ, ◌*◌, ◌^◌, ◌<◌}
use native.Mathlib.Omega.{arith}
use lib.IntN.{ℤ, pos}
use lib.ListN.{length, get_or, take}
use borrow.Author.Tests.{eq-eqb, ne_eqb}
use Rattle.strided.specs.Layout.{stride_row}
use Rattle.strided.specs.Refusals.{Row, refused_by, row8, row9, planning_refused}
use Rattle.strided.specs.Plan.{the_plan}
use Rattle.strided.specs.Begin.{begin_refused, begun_at, started}
use Rattle.strided.specs.Memory.{plan_of}
use Rattle.strided.specs.declared.Machine.{Machine}
use Rattle.strided.specs.declared.Plan.{Plan}
use Rattle.strided.specs.declared.Walk.{Walk}
use Rattle.strided.specs.declared.Purpose.TheVariants.{PointwiseInto}
use Rattle.strided.specs.declared.Refusal.{Refusal}
use Rattle.strided.specs.declared.Refusal.TheVariants.{StartCount, Offsets}
use Rattle.laws.specs.Base.Arrays.{take_counted}
use Rattle.laws.specs.Plan.Begins.{begins_to, begins_from, begins_offsets}
use Rattle.laws.specs.Refusals.Rows.{served_none, served_is, refused_some}
use Rattle.kernel.specs.Made.{Made}
use Rattle.cells.specs.Copy.{moved, copied}
use Rattle.cells.specs.Offsets.{place_at}
use Rattle.export.specs.Export.{width_of, exported, cell_rows, copy_refused, copy_done, Done}
use Rattle.export.specs.Rows.{copy_as_planning, copy_planned, Clean, clean}
use Rattle.export.specs.Packed.{Plain}
use Rattle.export.proofs.Plains.{plain_passes, plain_row9, plain_exported}
use Rattle.export.specs.Blocks.{walk_cells, starts_of, Copyable}
use Rattle.export.proofs.Walks.{plan_copyable, walk-exported}

module _ (mc : Machine) (es sizes : List ℕ) (ss zs : List ℤ) (dst src : List ℕ) where
  -- what the definition says, once it is known what is refused
  refused_done : {r : Refusal} → copy_refused mc es sizes ss zs (length dst) (length src) ≡ Some r → Done (copy_done mc es sizes ss zs dst src) dst dst (Err r)
  unfolding copy_done
  refused_done e = rw e (record { answer = refl; destination = refl })

  served_done : copy_refused mc es sizes ss zs (length dst) (length src) ≡ None → {out : List ℕ} → out ≡ exported es sizes ss zs dst src
      → Done (copy_done mc es sizes ss zs dst src) dst out (Ok tt)
  unfolding copy_done
  served_done e o = rw e (record { answer = refl; destination = o })

  -- planning refuses
  pub not-planned : {r : Refusal} → planning_refused mc es sizes ss (PointwiseInto 0) ≡ Some r → Done (copy_done mc es sizes ss zs dst src) dst dst (Err r)
  not-planned {r} e = refused_done (copy_as_planning mc es sizes ss zs (length dst) (length src) r e)

  module _ (hp : planning_refused mc es sizes ss (PointwiseInto 0) ≡ None) where
    abbrev nine : Row
    nine = row9 es (length sizes) (stride_row ss (length es)) zs

    abbrev cells : List Row
    cells = cell_rows es sizes ss zs (length dst) (length src)

    rest : copy_refused mc es sizes ss zs (length dst) (length src) ≡ refused_by (row8 (length sizes) zs ∷ nine ∷ cells)
    rest = copy_planned mc es sizes ss zs (length dst) (length src) hp

    -- row 8
    pub no_starts : (length zs ≡ length sizes → ⊥) → Done (copy_done mc es sizes ss zs dst src) dst dst (Err StartCount)
    no_starts n = refused_done (rest ∙ ap (λ (b : Bool). cond (not b) (Some StartCount) (refused_by (nine ∷ cells))) (ne_eqb (length zs) (length sizes) n))

    eight : length zs ≡ length sizes → copy_refused mc es sizes ss zs (length dst) (length src) ≡ refused_by (nine ∷ cells)
    eight many = rest ∙ ap (λ (b : Bool). cond (not b) (Some StartCount) (refused_by (nine ∷ cells))) (eq-eqb (length zs) (length sizes) many)

    -- nothing is refused, and the cells, of the width b, lie without gaps
    pub plain_done : {r b : ℕ} → Plain es sizes ss zs (length dst) (length src) r → b ≡ width_of sizes → (out : List ℕ)
        → out ≡ moved dst (place_at b (get_or zs 0 (pos 0))) src (place_at b (get_or zs 1 (pos 0))) (r * b)
        → Done (copy_done mc es sizes ss zs dst src) dst out (Ok tt)
    plain_done p q out o =
        served_done (eight p.starts ∙ ap (λ (b : Bool). cond b (Some Offsets) (refused_by cells)) (plain_row9 p) ∙ plain_passes p) (o ∙ sym (plain_exported p q dst src))

    module _ (many : length zs ≡ length sizes) (rank : ℕ) (E B : List ℕ) (S : List ℤ) (made : Made mc es sizes ss (PointwiseInto 0) rank E B S) where
      abbrev P : Plan
      P = the_plan mc es sizes ss (PointwiseInto 0)

      module _ (a : Result Walk Refusal) (is : a ≡ begun_at (plan_of rank (length sizes) E B S) zs) where
        begun_is : a ≡ begun_at P zs
        begun_is = is ∙ ap (λ (p : Plan). begun_at p zs) made.is

        -- row 9
        pub offsets_leave : (r : Refusal) → a ≡ Err r → Done (copy_done mc es sizes ss zs dst src) dst dst (Err r)
        unfolding begun_at
        offsets_leave r e = refused_done (eight many ∙ go nine.applies refl ∙ ap (λ (s : Refusal). Some s) (sym (begins_offsets mc es sizes ss (PointwiseInto 0) hp zs many r leave)))
          where
            leave : begin_refused P zs ≡ Some r
            leave = refused_some (begin_refused P zs) _ (sym begun_is ∙ e)

            go : (b : Bool) → nine.applies ≡ b → cond nine.applies (Some Offsets) (refused_by cells) ≡ Some Offsets
            go true q = ap (λ (b : Bool). cond b (Some Offsets) (refused_by cells)) q
            go false q =
                let n : None ≡ Some r = sym (begins_from mc es sizes ss (PointwiseInto 0) hp P.blocks zs many q) ∙ leave in
                cc n

        module _ (w : Walk) (serves : a ≡ Ok w) where
          begins : begin_refused P zs ≡ None
          unfolding begun_at
          begins = served_none (begin_refused P zs) _ (sym begun_is ∙ serves)

          walk_is : w ≡ started P zs
          unfolding begun_at
          walk_is = served_is (begin_refused P zs) _ (sym begun_is ∙ serves)

          passes : copy_refused mc es sizes ss zs (length dst) (length src) ≡ refused_by cells
          passes = eight many ∙ ap (λ (b : Bool). cond b (Some Offsets) (refused_by cells)) (begins_to mc es sizes ss (PointwiseInto 0) hp P.blocks zs begins).1

          -- rows 16 to 18
          pub cells_refuse : {r : Refusal} → refused_by (cell_rows es sizes ss zs (length dst) (length src)) ≡ Some r → Done (copy_done mc es sizes ss zs dst src) dst dst (Err r)
          cells_refuse e = refused_done (passes ∙ e)

          -- nothing is refused, and the cells have the width b
          module _ {b : ℕ} (e : (refused_by (cell_rows es sizes ss zs (length dst) (length src)) ≡ None) × (b ≡ width_of sizes)) where
            pub cells_clean : Clean es sizes ss zs (length dst) (length src)
            cells_clean = clean es sizes ss zs (length dst) (length src) e.0

            starts_back : starts_of w ≡ zs
            starts_back = ap (λ (v : Walk). take 2 v.offsets) walk_is ∙ take_counted (pos 0) 8 2 zs (many ∙ cells_clean.two) (omega arith)

            -- what the walk's copy asks
            pub walk_copyable : length dst < 2 ^ 63 → Copyable (plan_of rank (length sizes) E B S) (starts_of w) b (length dst) (length src)
            walk_copyable f =
                subst (λ (p : Plan). Copyable p (starts_of w) b (length dst) (length src)) (sym made.is)
                (subst (λ (l : List ℤ). Copyable P l b (length dst) (length src)) (sym starts_back)
                (subst (λ (n : ℕ). Copyable P zs n (length dst) (length src)) (sym e.1) (plan_copyable mc es sizes ss hp zs begins (length dst) (length src) cells_clean f)))

            pub walk-begun : w ≡ started (plan_of rank (length sizes) E B S) (starts_of w)
            walk-begun = walk_is ∙ ap₂ started (sym made.is) (sym starts_back)

            -- and what it leaves
            pub all_done : (out : List ℕ) → out ≡ copied b (walk_cells b (plan_of rank (length sizes) E B S) (starts_of w)) dst src
                → Done (copy_done mc es sizes ss zs dst src) dst out (Ok tt)
            all_done out o =
                served_done (passes ∙ e.0)
                (o ∙ ap₂ (λ (p : Plan) (l : List ℤ). copied b (walk_cells b p l) dst src) made.is starts_back
                ∙ ap (λ (n : ℕ). copied n (walk_cells n P zs) dst src) e.1
                ∙ walk-exported mc es sizes ss hp zs begins dst src cells_clean)
