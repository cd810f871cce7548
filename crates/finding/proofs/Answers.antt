-- The answers of index finding, put together from what the parts of the code found. Assumes nothing.
use mathlib.Core.Path.{◌≡◌, refl, sym, ap, ◌∙◌, subst}
use mathlib.Core.Bool.{Bool, true, false}
use mathlib.Core.List.{List, [], ◌∷◌}
use Rattle.std.specs.Prelude.{Some, Ok, Err, Result}
use Prim.Native.Nat.{ℕ, ◌<◌, ◌^◌}
use lib.IntN.{ℤ}
use lib.ListN.{length, get_or}
use Rattle.strided.specs.Base.{padded}
use Rattle.strided.specs.Layout.{within, total, extents}
use Rattle.strided.specs.Refusals.{refused_by, layout_refused, row11, served_unless}
use Rattle.strided.specs.Fuse.{plan_axes}
use Rattle.strided.specs.Index.{original_index, index_in_plan, told, told_original, told_plan}
use Rattle.strided.specs.Memory.{IndexMemory}
use Rattle.strided.specs.declared.Purpose.{Purpose}
use Rattle.strided.specs.declared.Refusal.{Refusal}
use Rattle.strided.specs.declared.Refusal.TheVariants.{Index}
use Rattle.strided.specs.declared.Told.{Told}
use Rattle.laws.specs.Refusals.Accepted.{accepted}
use Rattle.layout.specs.declared.slices.Layout.{Layout}
use Rattle.layout.specs.Checked.{LetThrough}
use Rattle.layout.proofs.Checks.{through_is}
use Rattle.finding.specs.Memory.{Leaves}
use Rattle.finding.specs.Mapped.{Fused, Sound, unraveled_by, raveled_by, unraveled, found_original}
use Rattle.finding.proofs.Maps.{extents_are, unraveled_is, raveled_is}

pub same-told : {s t : Result Told Refusal} {c x c' x' : List ℕ} {r : Result (Unit {0}) Refusal} → s ≡ t → Leaves s c x c' x' r → Leaves t c x c' x' r
same-told {c = c} {x = x} {c' = c'} {x' = x'} {r = r} e l = subst (λ (t : Result Told Refusal). Leaves t c x c' x' r) e l

-- ---- row 11

-- the code's test b is whether x is an index of the extents
module _ (es x y : List ℕ) {b : Bool} (is : b ≡ within es x) {old-count old-index : List ℕ} where
  pub leaves : b ≡ true → (n : ℕ) (index : List ℕ) → n ≡ length y → index ≡ padded 64 0 y
      → Leaves (served_unless (refused_by (row11 es x ∷ [])) (told y)) old-count old-index (n ∷ []) index (Ok tt)
  leaves h n index e f =
      let w : within es x ≡ true = sym is ∙ h in
      record { answer = rw w; memory = rw w (λ i. record { count = e i ∷ []; index = f i }) }

  pub leaves_none : b ≡ false → Leaves (served_unless (refused_by (row11 es x ∷ [])) (told y)) old-count old-index old-count old-index (Err Index)
  leaves_none h = let w : within es x ≡ false = sym is ∙ h in record { answer = rw w; memory = rw w }

-- ---- through the arrays of a layout's map

module _ {es : List ℕ} {m : ℕ} {ss : List ℤ} {u : Purpose} {order fused : List ℕ} (t : Sound es order fused) (f : Fused es m ss u order fused) where
  pub tells_original : (cs : List ℕ) → unraveled_by es order fused cs ≡ served_unless (refused_by (row11 (extents (plan_axes es m ss u)) cs ∷ [])) (told (original_index es m ss u cs))
  tells_original cs =
      ap (λ (l : List ℕ). served_unless (refused_by (row11 l cs ∷ [])) (told (unraveled es order fused cs))) (extents_are t.few-axes f)
      ∙ ap (λ (y : List ℕ). served_unless (refused_by (row11 (extents (plan_axes es m ss u)) cs ∷ [])) (told y)) (unraveled_is t.few-axes f cs)

  pub tells_plan : (is : List ℕ) → raveled_by es order fused is ≡ served_unless (refused_by (row11 es is ∷ [])) (told (index_in_plan es m ss u is))
  tells_plan is = ap (λ (y : List ℕ). served_unless (refused_by (row11 es is ∷ [])) (told y)) (raveled_is t.few-axes f is)

-- ---- the entries: planning's rows first

module _ (es sizes : List ℕ) (ss : List ℤ) (u : Purpose) {l : Layout} (c : LetThrough (layout_refused es sizes ss u) es sizes ss l) where
  pub cells-few : total l.extents.now < 2 ^ 64
  cells-few = rw c.extents ((accepted es sizes ss u c.served).cells)

  module _ (x : List ℕ) where
    pub original_passed : found_original l.extents.now l.operands l.strides.now u x ≡ told_original es sizes ss u x
    unfolding told_original
    original_passed = through_is c (λ e m s. found_original e m s u x) ∙ rw c.served

    pub plan_passed : served_unless (refused_by (row11 l.extents.now x ∷ [])) (told (index_in_plan l.extents.now l.operands l.strides.now u x)) ≡ told_plan es sizes ss u x
    unfolding told_plan
    plan_passed = through_is c (λ e m s. served_unless (refused_by (row11 e x ∷ [])) (told (index_in_plan e m s u x))) ∙ rw c.served

module _ (es sizes : List ℕ) (ss : List ℤ) (u : Purpose) (x : List ℕ) where
  module _ (r : Refusal) (h : layout_refused es sizes ss u ≡ Some r) {c i : List ℕ} where
    pub original_refused : Leaves (told_original es sizes ss u x) c i c i (Err r)
    unfolding told_original
    original_refused = rw h (record { answer = refl; memory = refl })

    pub plan_refused : Leaves (told_plan es sizes ss u x) c i c i (Err r)
    unfolding told_plan
    plan_refused = rw h (record { answer = refl; memory = refl })

-- ---- by value

module _ (t : Result Told Refusal) {c x c' x' : List ℕ} {r : Result (Unit {0}) Refusal} (l : Leaves t c x c' x' r) where
  -- what the memory holds is handed out
  pub value_of : r ≡ Ok tt → ◌≡◌ {A = Result Told Refusal} (Ok (record { count = get_or c' 0 0; index = x' })) t
  value_of e = go t l
    where
      go : (t : Result Told Refusal) → Leaves t c x c' x' r → ◌≡◌ {A = Result Told Refusal} (Ok (record { count = get_or c' 0 0; index = x' })) t
      go (Ok v) l = ap (λ (m : IndexMemory). Ok (record { count = get_or m.count 0 0; index = m.index })) l.memory
      go (Err q) l = let a = l.answer in cc (a, e)

  pub refusal_of : {q : Refusal} → r ≡ Err q → Err q ≡ t
  refusal_of {q} e = go t l
    where
      go : (t : Result Told Refusal) → Leaves t c x c' x' r → Err q ≡ t
      go (Ok v) l = let a = l.answer in cc (a, e)
      go (Err p) l = let a = l.answer in cc (a, e)
