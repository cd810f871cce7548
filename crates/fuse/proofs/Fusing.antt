-- A turn of `fuse_dims`, on lists: the places from i on are fused, and place i joins place i - 1 or not. `col` tells the strides at a place.
-- Assumes nothing.
use mathlib.Core.Path.{◌≡◌, refl, sym, ap, ap₂, ◌∙◌, subst}
use mathlib.Core.Bool.{Bool, true, false, cond, ◌&&◌}
use mathlib.Core.List.{List, [], ◌∷◌, ◌++◌}
use Prim.Native.Nat.{ℕ, suc, ◌+◌, ◌-◌, ◌*◌, ◌^◌, ◌≤◌, ◌<◌}
use native.Mathlib.Omega.{arith}
use lib.Dec.{ltb}
use lib.IntN.{ℤ}
use lib.ListN.{length, get_or, take, drop, set, length-append, length-drop, take-append-drop}
use lib.Seq.{take-suc, drop-cons, append_snoc, set_at, get_or_at, length-take-le}
use borrow.Author.Tests.{ltb-true}
use Rattle.arrange.specs.Axes.{Named}
use Rattle.strided.specs.Base.{padded}
use Rattle.strided.specs.Layout.{stride_column}
use Rattle.strided.specs.Fuse.{can_fuse, all_join}
use Rattle.laws.specs.Base.Arrays.{get_d_padded}
use Rattle.laws.specs.Base.Stores.{set-padded}
use Rattle.laws.specs.Base.Tests.{and_both}
use Rattle.laws.specs.Fuse.Places.{axis_at, column_by, fused_at, fused_more, length_fused}

-- one place alone
fused_one : (col : ℕ → List ℤ) (i : ℕ) (es : List ℕ) → length es ≤ 1 → fused_at col i es ≡ es
fused_one col i [] h = refl
fused_one col i (e ∷ []) h = refl
fused_one col i (e ∷ f ∷ es) h = absurd (bad h)
  where
    bad : suc (suc (length es)) ≤ 1 → ⊥
    bad h = omega arith

-- what stands in the array when the places from i on are fused
abbrev pub Done : (ℕ → List ℤ) → List ℕ → ℕ → List ℕ → Type 0
Done col E i out = out ≡ padded 64 0 (take i E ++ fused_at col i (drop i E))

pub done_first : (col : ℕ → List ℤ) (E : List ℕ) (i : ℕ) → length E ≤ i + 1 → Done col E i (padded 64 0 E)
done_first col E i h =
    ap (padded 64 0) (sym (ap (λ (r : List ℕ). take i E ++ r) (fused_one col i (drop i E) (omega (arith, length-drop i E))) ∙ take-append-drop i E))

module _ (col : ℕ → List ℤ) (E : List ℕ) (g : ℕ) (h : suc g < length E) (short : length E ≤ 64) (out : List ℕ) (done : Done col E (suc g) out) where
  abbrev e : ℕ
  e = get_or E g 0

  abbrev P : List ℕ
  P = take g E

  long : length P ≡ g
  long = length-take-le g E (omega arith)

  module _ (f : ℕ) (fs : List ℕ) (q : fused_at col (suc g) (drop (suc g) E) ≡ f ∷ fs) where
    whole : out ≡ padded 64 0 (P ++ e ∷ f ∷ fs)
    whole = done ∙ ap (padded 64 0) (ap₂ (λ (a b : List ℕ). a ++ b) (take-suc E g 0 (omega arith)) q ∙ append_snoc P e (f ∷ fs))

    two : (x : ℕ) → length (P ++ (x ∷ [])) ≡ suc g
    two x = length-append P (x ∷ []) ∙ omega (arith, long)

    at_before : get_or out g 0 ≡ e
    at_before = ap (λ (l : List ℕ). get_or l g 0) whole ∙ get_d_padded 0 64 (P ++ e ∷ f ∷ fs) g (omega arith) ∙ get_or_at P e (f ∷ fs) 0 g long

    at_axis : get_or out (suc g) 0 ≡ f
    at_axis =
        ap (λ (l : List ℕ). get_or l (suc g) 0) whole ∙ get_d_padded 0 64 (P ++ e ∷ f ∷ fs) (suc g) (omega arith)
        ∙ ap (λ (l : List ℕ). get_or l (suc g) 0) (sym (append_snoc P e (f ∷ fs))) ∙ get_or_at (P ++ (e ∷ [])) f fs 0 (suc g) (two e)

    next : fused_at col g (drop g E) ≡ cond (can_fuse (axis_at col g (get_or out g 0)) (axis_at col (suc g) (get_or out (suc g) 0))) (e * f ∷ 1 ∷ fs) (e ∷ f ∷ fs)
    next =
        ap (fused_at col g) (drop-cons E g 0 (omega arith)) ∙ fused_more col g e f (drop (suc g) E) fs q
        ∙ ap₂ (λ (a b : ℕ). cond (can_fuse (axis_at col g a) (axis_at col (suc g) b)) (e * f ∷ 1 ∷ fs) (e ∷ f ∷ fs)) (sym at_before) (sym at_axis)

    kept_at : can_fuse (axis_at col g (get_or out g 0)) (axis_at col (suc g) (get_or out (suc g) 0)) ≡ false → Done col E g out
    kept_at c =
        whole ∙ ap (λ (r : List ℕ). padded 64 0 (P ++ r)) (sym (next ∙ ap (λ (b : Bool). cond b (e * f ∷ 1 ∷ fs) (e ∷ f ∷ fs)) c))

    stored : set (set out g (get_or out g 0 * get_or out (suc g) 0)) (suc g) 1 ≡ padded 64 0 (P ++ e * f ∷ 1 ∷ fs)
    stored =
        let v : get_or out g 0 * get_or out (suc g) 0 ≡ e * f = ap₂ (λ (a b : ℕ). a * b) at_before at_axis in
        let la : length (P ++ e ∷ f ∷ fs) ≡ g + suc (suc (length fs)) = length-append P (e ∷ f ∷ fs) ∙ omega (arith, long) in
        let lb : length (P ++ e * f ∷ f ∷ fs) ≡ g + suc (suc (length fs)) = length-append P (e * f ∷ f ∷ fs) ∙ omega (arith, long) in
        ap₂ (λ (l : List ℕ) (x : ℕ). set (set l g x) (suc g) 1) whole v
        ∙ ap (λ (l : List ℕ). set l (suc g) 1) (set-padded 0 64 (P ++ e ∷ f ∷ fs) g (e * f) (omega (arith, la)) ∙ ap (padded 64 0) (set_at P e (f ∷ fs) (e * f) g long))
        ∙ set-padded 0 64 (P ++ e * f ∷ f ∷ fs) (suc g) 1 (omega (arith, lb))
        ∙ ap (padded 64 0)
        (ap (λ (l : List ℕ). set l (suc g) 1) (sym (append_snoc P (e * f) (f ∷ fs)))
        ∙ set_at (P ++ (e * f ∷ [])) f fs 1 (suc g) (two (e * f))
        ∙ append_snoc P (e * f) (1 ∷ fs))

    joined_at : can_fuse (axis_at col g (get_or out g 0)) (axis_at col (suc g) (get_or out (suc g) 0)) ≡ true
        → Done col E g (set (set out g (get_or out g 0 * get_or out (suc g) 0)) (suc g) 1)
    joined_at c = stored ∙ ap (λ (r : List ℕ). padded 64 0 (P ++ r)) (sym (next ∙ ap (λ (b : Bool). cond b (e * f ∷ 1 ∷ fs) (e ∷ f ∷ fs)) c))

  some_axis : (fs : List ℕ) → fused_at col (suc g) (drop (suc g) E) ≡ fs → 0 < length fs
  some_axis fs q = rw (← q) (omega (arith, length_fused col (suc g) (drop (suc g) E), length-drop (suc g) E))

  turn_kept : can_fuse (axis_at col g (get_or out g 0)) (axis_at col (suc g) (get_or out (suc g) 0)) ≡ false → Done col E g out
  turn_kept c = go (fused_at col (suc g) (drop (suc g) E)) refl
    where
      go : (fs : List ℕ) → fused_at col (suc g) (drop (suc g) E) ≡ fs → Done col E g out
      go [] q = absurd (bad (some_axis [] q))
        where
          bad : 0 < 0 → ⊥
          bad h = omega arith
      go (f ∷ fs) q = kept_at f fs q c

  turn_joined : can_fuse (axis_at col g (get_or out g 0)) (axis_at col (suc g) (get_or out (suc g) 0)) ≡ true
      → Done col E g (set (set out g (get_or out g 0 * get_or out (suc g) 0)) (suc g) 1)
  turn_joined c = go (fused_at col (suc g) (drop (suc g) E)) refl
    where
      go : (fs : List ℕ) → fused_at col (suc g) (drop (suc g) E) ≡ fs → Done col E g (set (set out g (get_or out g 0 * get_or out (suc g) 0)) (suc g) 1)
      go [] q = absurd (bad (some_axis [] q))
        where
          bad : 0 < 0 → ⊥
          bad h = omega arith
      go (f ∷ fs) q = joined_at f fs q c

-- the same as the code counts: place i, and i - 1 before it
module _ (col : ℕ → List ℤ) (E : List ℕ) (i : ℕ) (p : 0 < i) (h : i < length E) (short : length E ≤ 64) (out : List ℕ) (done : Done col E i out) where
  is_suc : suc (i - 1) ≡ i
  is_suc = omega arith

  axis_kept : can_fuse (axis_at col (i - 1) (get_or out (i - 1) 0)) (axis_at col i (get_or out i 0)) ≡ false → Done col E (i - 1) out
  axis_kept c =
      turn_kept col E (i - 1) (omega arith) short out (subst (λ (j : ℕ). Done col E j out) (sym is_suc) done)
      (subst (λ (j : ℕ). can_fuse (axis_at col (i - 1) (get_or out (i - 1) 0)) (axis_at col j (get_or out j 0)) ≡ false) (sym is_suc) c)

  axis_joined : can_fuse (axis_at col (i - 1) (get_or out (i - 1) 0)) (axis_at col i (get_or out i 0)) ≡ true
      → Done col E (i - 1) (set (set out (i - 1) (get_or out (i - 1) 0 * get_or out i 0)) i 1)
  axis_joined c =
      subst (λ (j : ℕ). Done col E (i - 1) (set (set out (i - 1) (get_or out (i - 1) 0 * get_or out j 0)) j 1)) is_suc
      (turn_joined col E (i - 1) (omega arith) short out (subst (λ (j : ℕ). Done col E j out) (sym is_suc) done)
      (subst (λ (j : ℕ). can_fuse (axis_at col (i - 1) (get_or out (i - 1) 0)) (axis_at col j (get_or out j 0)) ≡ true) (sym is_suc) c))

  -- v is what the code's test found
  module _ (out' : List ℕ) (v : Bool) (tested : v ≡ can_fuse (axis_at col (i - 1) (get_or out (i - 1) 0)) (axis_at col i (get_or out i 0))) where
    pub turn_left : v ≡ false → out' ≡ out → Done col E (i - 1) out'
    turn_left c q = q ∙ axis_kept (sym tested ∙ c)

    pub turn_taken : v ≡ true → out' ≡ set (set out (i - 1) (get_or out (i - 1) 0 * get_or out i 0)) i 1 → Done col E (i - 1) out'
    turn_taken c q = q ∙ axis_joined (sym tested ∙ c)

-- where two axes join, their extents' product is a 64-bit number
pub joined_fits : (j v : Bool) (a b : ℕ) → v ≡ (j && ltb (a * b) (2 ^ 64)) → v ≡ true → a * b < 2 ^ 64
joined_fits j v a b tested c = ltb-true (a * b) (2 ^ 64) (and_both j (ltb (a * b) (2 ^ 64)) (sym tested ∙ c)).1

-- the code's test of the axes that stand at two places is the test of the places
pub tests_places : (ss : List ℤ) (p m : ℕ) (order : List ℕ) (i j x y a b : ℕ) (v : Bool) → x ≡ get_or order i 0 → y ≡ get_or order j 0
    → v ≡ (all_join a (stride_column ss p x 0 m) (stride_column ss p y 0 m) && ltb (a * b) (2 ^ 64))
    → v ≡ can_fuse (axis_at (column_by ss p m order) i a) (axis_at (column_by ss p m order) j b)
tests_places ss p m order i j x y a b v q r e = e ∙ ap₂ (λ (x y : ℕ). all_join a (stride_column ss p x 0 m) (stride_column ss p y 0 m) && ltb (a * b) (2 ^ 64)) q r

-- as many extents as there are axes
pub as_many : {p m : ℕ} {order : List ℕ} → Named p m order → (E : List ℕ) → length E ≡ 64 → length (take (length order) E) ≡ length order
as_many t E l = length-take-le _ E (omega (arith, t.few-axes))
