-- AN AXIS THAT NOBODY MOVES ALONG IS NEVER CUT: in the plan of any layout, for either purpose and any record, an axis on which every stride is
-- 0 has its extent as block. Cutting passes over it, the tail's blocks become 1 only where no byte stride is 0, and the fit skips it.
-- Assumes nothing.
use Rattle.std.specs.Prelude.{◌≡◌, true, false, cond, ◌||◌, leb, eqb, pos, length, get_or, Ok}
use Rattle.std.proofs.Math.Path.{refl, ap}
use Rattle.std.proofs.Common.{◌∙◌, inr, zero-mul, get_or-set_other, subst, sym}
use Rattle.std.proofs.Math.Bool.{Bool}
use mathlib.Core.List.{List}
use Rattle.std.proofs.Math.Logic.{⊎_elim}
use Prim.Native.Nat.{ℕ, zero, suc, ◌+◌, ◌*◌, ◌≤◌, ◌<◌}
use native.Mathlib.Omega.{arith}
use Rattle.std.proofs.Math.Dec.{ltb}
use Rattle.std.proofs.Math.IntN.{ℤ, nat_abs}
use borrow.Author.Tests.{ltb-true, leb-false}
use Rattle.strided.specs.Base.{padded, least, every}
use Rattle.strided.specs.Layout.{Axis, extents, total, chosen}
use Rattle.strided.specs.Refusals.{missing}
use Rattle.strided.specs.Fuse.{plan_axes}
use Rattle.strided.specs.Region.{byte_table, byte_at, region}
use Rattle.strided.specs.Costs.{cost_number, costs}
use Rattle.strided.specs.Cut.{plan_ranks, shrunk, least_byte, keeps_first, ones, cutting}
use Rattle.strided.specs.Decline.{declined}
use Rattle.strided.specs.Fit.{fitted}
use Rattle.strided.specs.Plan.{stride_table, grows, fitted_for, cut_blocks, plan_from, planned, the_plan}
use Rattle.strided.specs.declared.Machine.{Machine}
use Rattle.strided.specs.declared.Purpose.{Purpose}
use Rattle.strided.specs.declared.Purpose.TheVariants.{Pointwise, PointwiseInto, Fold}
use Rattle.strided.specs.declared.Plan.{Plan}
use Rattle.laws.specs.Cut.Ranges.{le_or_lt, least_in}
use Rattle.laws.specs.Cut.Steps.{shrunk-still}
use Rattle.laws.specs.Fit.Good.{fitted-kept}
use Rattle.laws.specs.Cut.Tables.{stride_size, byte_at_lem, cost_at, cost_none, still_each}
use Rattle.laws.specs.Refusals.Accepted.{Accepted, accepted}
use Rattle.laws.specs.Refusals.Record.{planning_layout}
use Rattle.laws.specs.Plan.Bounds.{plan_few}
use Rattle.laws.specs.Plan.Answers.{not-refused, planned_is}

-- axis j has the same block in both
abbrev As : ℕ → List ℕ → List ℕ → Type 0
As j r b = get_or r j 0 ≡ get_or b j 0

either_as : (t : Bool) (j : ℕ) (x y b : List ℕ) → (t ≡ true → As j x b) → (t ≡ false → As j y b) → As j (cond t x y) b
either_as true j x y b p q = p refl
either_as false j x y b p q = q refl

-- ---- cutting

ones-before : (o n : ℕ) (b : List ℕ) (j : ℕ) → j < o → As j (ones o n b) b
unfolding ones
ones-before o zero b j h = refl
ones-before o (suc n) b j h = get_or-set_other (ones o n b) (o + n) j 1 0 (omega arith) ∙ ones-before o n b j h

-- axis j has no cost, and some operand's byte stride there is 0
module _ (mc : Machine) (bytes : List ℕ) (operands : ℕ) (costs : List ℕ) (table : List (List ℕ)) (j k : ℕ)
    (free : get_or costs j 0 ≡ 0) (h : k < operands) (stays : byte_at bytes k j ≡ 0) where
  -- with it in the tail the least byte stride is 0
  least_none : (o n : ℕ) → o ≤ j → j < o + n → least_byte bytes operands o n ≤ 0
  unfolding least_byte
  least_none o n p q =
      omega (
        arith,
        least_in (λ k. least (byte_at bytes k) o n) 0 operands k (omega arith) (omega arith),
        least_in (byte_at bytes k) o n j p q,
        stays,
      )

  cutting-still : (n o : ℕ) (b : List ℕ) → j < o + n → As j (cutting mc bytes operands costs table o n b) b
  unfolding cutting
  cutting-still zero o b q = refl
  cutting-still (suc n) o b q =
      let flat : List ℕ = ones o (suc n) b in
      let less : List ℕ = shrunk mc bytes operands costs o (suc n) b in
      let low : Bool = ltb mc.cache (least_byte bytes operands o (suc n)) in
      let rest : List ℕ = cutting mc bytes operands costs table (o + 1) n b in
      either_as (leb (region mc bytes operands b o (suc n)) mc.cache) j b _ b (λ e. refl)
      (λ e. either_as (keeps_first table operands o (suc n)) j rest (cond low flat less) b (λ e. cutting-still n (o + 1) b (omega arith))
      (λ e. either_as low j flat less b
      (λ t. ⊎_elim
      (λ (p : o ≤ j). absurd (omega (arith, ltb-true mc.cache (least_byte bytes operands o (suc n)) t, least_none o (suc n) p q)))
      (λ (p : j < o). ones-before o (suc n) b j p)
      (le_or_lt o j))
      (λ t. shrunk-still mc bytes operands costs o (suc n) b j free)))

-- ---- the blocks of a plan

module _ (mc : Machine) (sizes es : List ℕ) (strides : List ℤ) (rank j : ℕ) (one : 0 < length sizes) (axes : rank ≤ 64) (h : j < rank)
    (stays : (k : ℕ) → k < length sizes → stride_size strides k j ≡ 0) where
  no_cost : get_or (costs strides (length sizes) rank) j 0 ≡ 0
  no_cost =
      cost_at strides (length sizes) rank j h
      ∙ ap cost_number (cost_none (λ k. stride_size strides k j) (length sizes) (still_each (λ k. stride_size strides k j) (length sizes) stays))

  no_bytes : byte_at (byte_table sizes strides) 0 j ≡ 0
  no_bytes = byte_at_lem sizes strides 0 j (omega arith) ∙ ap (λ (x : ℕ). x * get_or sizes 0 0) (stays 0 one) ∙ zero-mul (get_or sizes 0 0)

  for_still : (u : Purpose) (b : List ℕ) → missing (length sizes) (chosen u) ≡ false → As j (fitted_for mc u (byte_table sizes strides) sizes strides rank b) b
  for_still Pointwise b there = refl
  for_still (Fold c) b there = refl
  for_still (PointwiseInto c) b there =
      either_as (eqb (length sizes) 2) j (fitted mc (byte_table sizes strides) sizes rank (stride_size strides c) b) b b
      (λ e. fitted-kept mc (byte_table sizes strides) sizes rank (stride_size strides c) b j (inr (stays c (leb-false (length sizes) c there))))
      (λ e. refl)

  blocks_still : (u : Purpose) → missing (length sizes) (chosen u) ≡ false → As j (cut_blocks mc sizes es strides rank u) es
  unfolding cut_blocks
  blocks_still u there =
      let bytes : List ℕ = byte_table sizes strides in
      let cs : List ℕ = costs strides (length sizes) rank in
      let ruled : List ℕ = cutting mc bytes (length sizes) cs (plan_ranks sizes strides rank) 0 rank es in
      let kept : List ℕ = fitted_for mc u bytes sizes strides rank ruled in
      let off : Bool = declined mc bytes sizes (length sizes) es rank ruled in
      either_as (eqb rank 0 || (leb (region mc bytes (length sizes) es 0 rank) mc.cache || every (grows sizes strides rank) 0 (length sizes))) j es (cond off es kept) es
      (λ e. refl)
      (λ e. either_as off j es kept es (λ e. refl)
      (λ e. for_still u ruled there
      ∙ cutting-still mc bytes (length sizes) cs (plan_ranks sizes strides rank) j 0 no_cost one no_bytes rank 0 es (omega arith)))

-- ---- the plan

-- nobody moves along axis j of a plan, which is one of its axes
pub record Still (p : Plan) (j : ℕ) : Type 0 where
  pub there : j < p.rank
  pub stays : (k : ℕ) → k < p.operands → get_or p.strides (k * 64 + j) (pos 0) ≡ pos 0

module _ (mc : Machine) (es sizes : List ℕ) (ss : List ℤ) (u : Purpose) where
  from-still : Accepted es sizes ss u → (j : ℕ) → Still (the_plan mc es sizes ss u) j → As j (the_plan mc es sizes ss u).blocks (the_plan mc es sizes ss u).extents
  unfolding plan_from
  from-still a j s =
      let axs : List Axis = plan_axes es (length sizes) ss u in
      let E : List ℕ = padded 64 0 (extents axs) in
      let S : List ℤ = stride_table axs (length sizes) in
      either_as (leb (total es) 1024) j E (cut_blocks mc sizes E S (length axs) u) E (λ e. refl)
      (λ e. blocks_still mc sizes E S (length axs) j a.one (plan_few es sizes ss u a) s.there (λ k h. ap nat_abs (s.stays k h)) u a.there)

  pub still-whole : {p : Plan} → planned mc es sizes ss u ≡ Ok p → (j : ℕ) → Still p j → get_or p.blocks j 0 ≡ get_or p.extents j 0
  still-whole h =
      let a : Accepted es sizes ss u = accepted es sizes ss u (planning_layout mc es sizes ss u (not-refused mc es sizes ss u h)) in
      subst (λ (q : Plan). (j : ℕ) → Still q j → As j q.blocks q.extents) (sym (planned_is mc es sizes ss u h)) (from-still a)
