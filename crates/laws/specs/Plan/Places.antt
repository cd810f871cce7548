-- HOW MANY PLACES A PLAN'S ARRAYS HAVE: 64, 64 and 512. No rule that shortens blocks adds or drops one.
-- Assumes nothing.
use Rattle.std.specs.Prelude.{◌≡◌, refl, Bool, true, false, cond, ◌||◌, List, ℕ, zero, suc, ◌+◌, ltb, leb, eqb, ℤ, pos, set}
use Rattle.std.proofs.Common.{◌∙◌, length-set}
use Rattle.std.proofs.Math.ListN.{length}
use Rattle.strided.specs.Base.{padded, over, run, every}
use Rattle.strided.specs.Layout.{Axis, extents, row, total}
use Rattle.strided.specs.Region.{byte_table, region}
use Rattle.strided.specs.Costs.{costs}
use Rattle.strided.specs.Cut.{plan_ranks, keeps_first, least_byte, ones, cutting}
use Rattle.strided.specs.Decline.{declined}
use Rattle.strided.specs.Fit.{load, shortens, most_of, fit_from, fitted}
use Rattle.strided.specs.Plan.{stride_table, grows, fitted_for, cut_blocks, plan_from}
use Rattle.strided.specs.declared.Purpose.{Purpose}
use Rattle.strided.specs.declared.Purpose.TheVariants.{Pointwise, PointwiseInto, Fold}
use Rattle.strided.specs.declared.Machine.{Machine}
use Rattle.laws.specs.Base.Arrays.{length-padded}
use Rattle.laws.specs.Cut.Steps.{shrunk-length}

either_length : (t : Bool) (x y : List ℕ) {n : ℕ} → length x ≡ n → length y ≡ n → length (cond t x y) ≡ n
either_length true x y p q = p
either_length false x y p q = q

-- ---- cutting

ones-length : (o n : ℕ) (b : List ℕ) → length (ones o n b) ≡ length b
unfolding ones
ones-length o zero b = refl
ones-length o (suc n) b = length-set (ones o n b) (o + n) 1 ∙ ones-length o n b

cutting-length : (mc : Machine) (bytes : List ℕ) (operands : ℕ) (costs : List ℕ) (table : List (List ℕ)) (o n : ℕ) (b : List ℕ)
    → length (cutting mc bytes operands costs table o n b) ≡ length b
unfolding cutting
cutting-length mc bytes operands costs table o zero b = refl
cutting-length mc bytes operands costs table o (suc n) b =
    either_length (leb (region mc bytes operands b o (suc n)) mc.cache) _ _ refl
    (either_length (keeps_first table operands o (suc n)) _ _ (cutting-length mc bytes operands costs table (o + 1) n b)
    (either_length (ltb mc.cache (least_byte bytes operands o (suc n))) _ _ (ones-length o (suc n) b) (shrunk-length mc bytes operands costs o (suc n) b)))

-- ---- the fit

fit_length : (mc : Machine) (bytes sizes : List ℕ) (rank : ℕ) (size : ℕ → ℕ) (n : ℕ) (b : List ℕ) → length (fit_from mc bytes sizes rank size n b) ≡ length b
unfolding fit_from
fit_length mc bytes sizes rank size zero b = refl
fit_length mc bytes sizes rank size (suc n) b =
    either_length (shortens mc bytes sizes rank size b n) _ _
    (either_length (ltb mc.live (load mc bytes sizes rank (set b n 1))) _ _
    (fit_length mc bytes sizes rank size n (set b n 1) ∙ length-set b n 1)
    (length-set b n (most_of mc bytes sizes rank b n)))
    (fit_length mc bytes sizes rank size n b)

fitted-length : (mc : Machine) (bytes sizes : List ℕ) (rank : ℕ) (size : ℕ → ℕ) (b : List ℕ) → length (fitted mc bytes sizes rank size b) ≡ length b
unfolding fitted
fitted-length mc bytes sizes rank size b = either_length (ltb mc.live (load mc bytes sizes rank b)) _ _ (fit_length mc bytes sizes rank size rank b) refl

for_length : (mc : Machine) (u : Purpose) (bytes sizes : List ℕ) (strides : List ℤ) (rank : ℕ) (b : List ℕ) → length (fitted_for mc u bytes sizes strides rank b) ≡ length b
for_length mc Pointwise bytes sizes strides rank b = refl
for_length mc (PointwiseInto c) bytes sizes strides rank b = either_length (eqb (length sizes) 2) _ _ (fitted-length mc bytes sizes rank _ b) refl
for_length mc (Fold c) bytes sizes strides rank b = refl

-- ---- the plan

pub blocks_length : (mc : Machine) (sizes es : List ℕ) (strides : List ℤ) (rank : ℕ) (u : Purpose) → length (cut_blocks mc sizes es strides rank u) ≡ length es
unfolding cut_blocks
blocks_length mc sizes es strides rank u =
    let bytes : List ℕ = byte_table sizes strides in
    let ruled : List ℕ = cutting mc bytes (length sizes) (costs strides (length sizes) rank) (plan_ranks sizes strides rank) 0 rank es in
    let kept : List ℕ = fitted_for mc u bytes sizes strides rank ruled in
    let off : Bool = declined mc bytes sizes (length sizes) es rank ruled in
    let small : Bool = leb (region mc bytes (length sizes) es 0 rank) mc.cache in
    either_length (eqb rank 0 || (small || every (grows sizes strides rank) 0 (length sizes))) es (cond off es kept) refl
    (either_length off es kept refl
    (for_length mc u bytes sizes strides rank ruled ∙ cutting-length mc bytes (length sizes) (costs strides (length sizes) rank) (plan_ranks sizes strides rank) 0 rank es))

module _ (mc : Machine) (es sizes : List ℕ) (axs : List Axis) (u : Purpose) where
  pub plan_extents_lem : length (plan_from mc es sizes axs u).extents ≡ 64
  unfolding plan_from
  plan_extents_lem = length-padded 0 64 (extents axs)

  pub plan_blocks_lem : length (plan_from mc es sizes axs u).blocks ≡ 64
  unfolding plan_from
  plan_blocks_lem =
      let e : length (padded 64 0 (extents axs)) ≡ 64 = length-padded 0 64 (extents axs) in
      either_length (leb (total es) 1024) _ _ e (blocks_length mc sizes (padded 64 0 (extents axs)) (stride_table axs (length sizes)) (length axs) u ∙ e)

  pub plan_strides : length (plan_from mc es sizes axs u).strides ≡ 512
  unfolding plan_from
  plan_strides = length-padded (pos 0) 512 (over (run 0 (length sizes)) (λ k. padded 64 (pos 0) (row k axs)))
