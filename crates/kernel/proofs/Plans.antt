-- What the plan's arrays give: all that cutting asks of them, the plan put together from them, and the answer of the entry.
-- Assumes nothing.
use mathlib.Core.Path.{◌≡◌, sym, ap, ◌∙◌, subst}
use mathlib.Core.Bool.{Bool, true, false, cond}
use mathlib.Core.List.{List}
use Rattle.std.specs.Prelude.{None, Ok, Result}
use Prim.Native.Nat.{ℕ, ◌<◌}
use native.Mathlib.Omega.{arith}
use lib.Dec.{leb}
use lib.IntN.{ℤ, pos}
use lib.ListN.{length}
use Rattle.strided.specs.Base.{padded, over, run}
use Rattle.strided.specs.Layout.{Axis, extents, row, total, has_zero}
use Rattle.strided.specs.Order.{loop_order, fusing_order}
use Rattle.strided.specs.Refusals.{planning_refused}
use Rattle.strided.specs.Fuse.{plan_axes}
use Rattle.strided.specs.Plan.{stride_table, cut_blocks, plan_from, the_plan, planned}
use Rattle.strided.specs.Memory.{plan_of}
use Rattle.strided.specs.declared.Machine.{Machine}
use Rattle.strided.specs.declared.Purpose.{Purpose}
use Rattle.laws.specs.Base.Arrays.{length-padded}
use Rattle.laws.specs.Base.Layouts.{total_nozero}
use Rattle.laws.specs.Plan.Places.{plan_extents_lem, plan_blocks_lem, plan_strides}
use Rattle.laws.specs.Refusals.Accepted.{Accepted, accepted}
use Rattle.laws.specs.Refusals.Record.{planning_layout}
use Rattle.laws.specs.Refusals.Zeros.{no_zero_test}
use Rattle.laws.specs.Plan.Answers.{planned_served}
use Rattle.laws.specs.Plan.Bounds.{plan_few, array_small, array_near}
use Rattle.layout.specs.Lent.{Whole}
use Rattle.layout.specs.Checked.{LetThrough}
use Rattle.layout.specs.declared.slices.Layout.{Layout}
use Rattle.layout.proofs.Checks.{through_as, as_through}
use Rattle.arrange.specs.Axes.{given}
use Rattle.fuse.specs.Planned.{fused_in}
use Rattle.model.specs.Plannable.{Plannable}
use Rattle.kernel.specs.Made.{Made}
use Rattle.strided.specs.declared.Refusal.{Refusal}
use Rattle.strided.specs.declared.Plan.{Plan}

-- "Total at most 1,024": the order of fusing names each axis at its own place
module _ (es : List ℕ) (m : ℕ) (ss : List ℤ) (u : Purpose) (h : leb (total es) 1024 ≡ true) where
  given_small : given (length es) ≡ fusing_order es m ss u
  unfolding fusing_order
  given_small = sym (ap (λ (t : Bool). cond t (run 0 (length es)) (loop_order es m ss u)) h)

  given_axes : fused_in es m ss (given (length es)) ≡ plan_axes es m ss u
  unfolding plan_axes
  given_axes = ap (fused_in es m ss) given_small

  -- and arrays of the ones are arrays of the others
  pub given_planned : {A : Type 0} (f : List Axis → A) {x : A} → x ≡ f (fused_in es m ss (given (length es))) → x ≡ f (plan_axes es m ss u)
  given_planned f q = q ∙ ap f given_axes

-- the arrays have the plan's axes
module _ (es sizes : List ℕ) (ss : List ℤ) (u : Purpose) (a : Accepted es sizes ss u) (rank : ℕ) (E : List ℕ) (S : List ℤ)
    (count : rank ≡ length (plan_axes es (length sizes) ss u)) (wide : E ≡ padded 64 0 (extents (plan_axes es (length sizes) ss u)))
    (long : S ≡ stride_table (plan_axes es (length sizes) ss u) (length sizes)) where
  abbrev axs : List Axis
  axs = plan_axes es (length sizes) ss u

  pub plannable : 1024 < total es → Plannable sizes E S rank u
  plannable h =
      let z : has_zero es ≡ false = no_zero_test es (total_nozero es (omega arith)) in
      subst (λ (n : ℕ). Plannable sizes E S n u) (sym count)
      (subst (λ (e : List ℕ). Plannable sizes e S (length axs) u) (sym wide)
      (subst (λ (s : List ℤ). Plannable sizes (padded 64 0 (extents axs)) s (length axs) u) (sym long)
      (record {
        axes = plan_few es sizes ss u a;
        one = a.one;
        few = a.few;
        places = length-padded 0 64 (extents axs);
        table = length-padded (pos 0) 512 (over (run 0 (length sizes)) (λ k. padded 64 (pos 0) (row k axs)));
        small = array_small es sizes ss u a (omega arith);
        there = a.there;
        near = array_near es sizes ss u a z;
      })))

  -- "Total at most 1,024: .. blocks are the full extents. Otherwise .. cut."
  pub made_small : (mc : Machine) → leb (total es) 1024 ≡ true → Made mc es sizes ss u rank E E S
  unfolding plan_from
  made_small mc h =
      record { is = (λ i. record { rank = count i; operands = length sizes; extents = wide i; blocks = wide i; strides = long i }) ∙ rw h }

  pub made-cut : (mc : Machine) → leb (total es) 1024 ≡ false → (B : List ℕ) → B ≡ cut_blocks mc sizes E S rank u → Made mc es sizes ss u rank E B S
  unfolding plan_from
  made-cut mc h B e =
      record {
        is =
            (λ i. record { rank = rank; operands = length sizes; extents = E; blocks = e i; strides = S })
            ∙ (λ i. record { rank = count i; operands = length sizes; extents = wide i; blocks = cut_blocks mc sizes (wide i) (long i) (count i) u; strides = long i })
            ∙ rw h;
      }

-- what is made is handed out
pub serves : (mc : Machine) (es sizes : List ℕ) (ss : List ℤ) (u : Purpose) → planning_refused mc es sizes ss u ≡ None
    → (rank : ℕ) (E B : List ℕ) (S : List ℤ) → Made mc es sizes ss u rank E B S
    → ◌≡◌ {A = Result Plan Refusal} (Ok (record { rank = rank; operands = length sizes; extents = E; blocks = B; strides = S })) (planned mc es sizes ss u)
serves mc es sizes ss u h rank E B S m = ap (λ (p : Plan). Ok p) m.is ∙ sym (planned_served mc es sizes ss u h)

-- a layout that planning does not refuse may be planned, and its plan is that of its slices
module _ (mc : Machine) (es sizes : List ℕ) (ss : List ℤ) (u : Purpose) {l : Layout} (c : LetThrough (planning_refused mc es sizes ss u) es sizes ss l) where
  pub through-accepted : Accepted l.extents.now sizes l.strides.now u
  through-accepted = as_through c (λ e m s. Accepted e sizes s u) (accepted es sizes ss u (planning_layout mc es sizes ss u c.served))

  pub through-made : {rank : ℕ} {E B : List ℕ} {S : List ℤ} → Made mc l.extents.now sizes l.strides.now u rank E B S → Made mc es sizes ss u rank E B S
  through-made {rank} {E} {B} {S} = through_as c (λ e m s. Made mc e sizes s u rank E B S)

-- it may be lent
module _ (mc : Machine) (es sizes : List ℕ) (ss : List ℤ) (u : Purpose) (h : planning_refused mc es sizes ss u ≡ None) where
  pub planned_whole : Whole (the_plan mc es sizes ss u)
  unfolding plan_from
  planned_whole =
      let axs : List Axis = plan_axes es (length sizes) ss u in
      let a = accepted es sizes ss u (planning_layout mc es sizes ss u h) in
      record {
        axes = plan_few es sizes ss u a;
        one = a.one;
        few = a.few;
        extents-all = plan_extents_lem mc es sizes axs u;
        blocks_all = plan_blocks_lem mc es sizes axs u;
        strides_all = plan_strides mc es sizes axs u;
      }

  pub made_whole : {rank : ℕ} {E B : List ℕ} {S : List ℤ} → Made mc es sizes ss u rank E B S → Whole (plan_of rank (length sizes) E B S)
  made_whole m = subst Whole (sym m.is) planned_whole
