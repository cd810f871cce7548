-- `passes` counts in bytes and the code in elements: that both say the same. And the cut among the plan's axes alone is that of the arrays.
-- Assumes nothing.
use mathlib.Core.Path.{◌≡◌, ap, ap₂, ◌∙◌}
use mathlib.Core.Bool.{Bool}
use mathlib.Core.List.{List}
use mathlib.Core.Logic.{⊎_elim}
use Prim.Native.Nat.{ℕ, ◌≤◌, ◌<◌}
use native.Mathlib.Omega.{arith}
use lib.Dec.{ltb}
use lib.ListN.{length, get_or, take, length-take}
use borrow.Author.Tests.{eq-eqb, ne_eqb}
use Rattle.std.proofs.lemmas.List.{get_or-take}
use Rattle.strided.specs.Base.{seek}
use Rattle.strided.specs.Region.{byte_table}
use Rattle.strided.specs.Decline.{first_cut, passes}
use Rattle.strided.specs.declared.Machine.{Machine}
use Rattle.laws.specs.Base.Ranges.{below_or}
use Rattle.laws.specs.Cut.Ranges.{seek_le, seek_cong}
use Rattle.laws.specs.Cut.Elements.{passes_elements}
use Rattle.laws.specs.Cut.Tables.{stride_size, byte_at_lem}
use Rattle.decline.specs.Slabs.{clear_at}
use Rattle.region.specs.declared.tail.Axes.{Axes}

module _ (mc : Machine) (a : Axes) (cut k : ℕ) where
  pub passes_is : cut ≤ a.rank → passes mc (byte_table a.sizes.now a.strides.now) a.sizes.now a.extents.now cut a.rank k ≡ clear_at mc a cut k
  unfolding passes
  passes_is h = ⊎_elim
      (λ (some : 0 < get_or a.sizes.now k 0).
      passes_elements mc (byte_table a.sizes.now a.strides.now) a.sizes.now a.extents.now (stride_size a.strides.now k) cut a.rank k h
      (λ i l. byte_at_lem a.sizes.now a.strides.now k i (omega (arith, a.to))) some
      ∙ rw (ne_eqb (get_or a.sizes.now k 0) 0 (λ e. omega arith)))
      (λ (none : get_or a.sizes.now k 0 ≤ 0). rw (eq-eqb (get_or a.sizes.now k 0) 0 (omega arith)))
      (below_or 0 (get_or a.sizes.now k 0))

-- where the first n places of two arrays are looked at, what is found is found among n places of the arrays
pub cut_within : (es b : List ℕ) (n r : ℕ) → n ≤ length b → r ≡ first_cut (take n es) (take n b) (length (take n b)) → (r ≡ first_cut es b n) × (r ≤ n)
unfolding first_cut
cut_within es b n r h e =
    let below : ℕ → Bool = λ i. ltb (get_or b i 0) (get_or es i 0) in
    let long : length (take n b) ≡ n = omega (arith, length-take n b) in
    let is : r ≡ seek below 0 n =
    e ∙ ap (first_cut (take n es) (take n b)) long
    ∙ seek_cong (λ i. ltb (get_or (take n b) i 0) (get_or (take n es) i 0)) below 0 n
    (λ i p q. ap₂ ltb (get_or-take n b i 0 (omega arith)) (get_or-take n es i 0 (omega arith))) in
    (is, omega (arith, is, seek_le below 0 n))
