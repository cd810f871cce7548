-- Axes by their places: extents, and a rule that tells the strides at each place. Axes in an order are such: at place j are the strides of
-- the axis that the order names there. What fusing and picking make of them. Assumes nothing.
use Rattle.std.specs.Prelude.{◌≡◌, refl, Bool, true, false, cond, List, [], ◌∷◌, ℕ, zero, suc, ◌+◌, ◌*◌, ◌≤◌, ◌<◌, ℤ, pos, length, get_or, take, drop}
use Rattle.std.proofs.Common.{sym, ap, ap₂, ◌∙◌, arith, get_or-take, get_or-drop, length-take-le}
use Rattle.strided.specs.Base.{padded}
use Rattle.strided.specs.Layout.{Axis, no_axis, extents, row, stride_column, axes_from}
use Rattle.strided.specs.Order.{pick}
use Rattle.strided.specs.Fuse.{fuse, fuse_step, fuse_if, can_fuse}
use Rattle.strided.specs.Plan.{stride_table}
use Rattle.laws.specs.Base.Layouts.{length-extents, get_d_column}
use Rattle.laws.specs.Fuse.Arrays.{Below, get_d_axis, pick_row, pick_rows, over-same, length-fuse}

-- place i with the extent e, and the places from i on
abbrev pub axis_at : (ℕ → List ℤ) → ℕ → ℕ → Axis
axis_at col i e = record { extent = e; strides = col i }

abbrev pub axes_at : (ℕ → List ℤ) → ℕ → List ℕ → List Axis
axes_at col i [] = []
axes_at col i (e ∷ es) = axis_at col i e ∷ axes_at col (suc i) es

-- the strides of the axis that the order names at place j; operand k's stride on axis a stands at k * p + a
abbrev pub column_by : List ℤ → ℕ → ℕ → List ℕ → ℕ → List ℤ
column_by ss p m order j = stride_column ss p (get_or order j 0) 0 m

-- the axes that an order names, with extents of their own
abbrev pub axes_by : List ℤ → ℕ → ℕ → List ℕ → List ℕ → List Axis
axes_by ss p m order es = axes_at (column_by ss p m order) 0 es

module _ (col : ℕ → List ℤ) where
  pub extents-at : (i : ℕ) (es : List ℕ) → extents (axes_at col i es) ≡ es
  extents-at i [] = refl
  extents-at i (e ∷ es) = ap (λ (r : List ℕ). e ∷ r) (extents-at (suc i) es)

  pub length_at : (i : ℕ) (es : List ℕ) → length (axes_at col i es) ≡ length es
  length_at i [] = refl
  length_at i (e ∷ es) = ap suc (length_at (suc i) es)

  get_d_place : (i : ℕ) (es : List ℕ) (j : ℕ) → j < length es → get_or (axes_at col i es) j no_axis ≡ axis_at col (i + j) (get_or es j 0)
  get_d_place i [] j h = absurd (bad h)
    where
      bad : j < 0 → ⊥
      bad h = omega arith
  get_d_place i (e ∷ es) zero h = let q : i + 0 ≡ i = omega arith in rw q
  get_d_place i (e ∷ es) (suc j) h =
      let q : i + suc j ≡ suc i + j = omega arith in
      rw q (get_d_place (suc i) es j (omega arith))

  -- ---- fusing leaves the strides alone

  -- the fused extents of the places from i on
  abbrev pub fused_at : ℕ → List ℕ → List ℕ
  fused_at i es = extents (fuse (axes_at col i es))

  step-at : (i e : ℕ) (es : List ℕ) → fuse_step (axis_at col i e) (axes_at col (suc i) es) ≡ axes_at col i (extents (fuse_step (axis_at col i e) (axes_at col (suc i) es)))
  step-at i e [] = refl
  step-at i e (f ∷ es) = go (can_fuse (axis_at col i e) (axis_at col (suc i) f))
    where
      behind : axes_at col (suc (suc i)) es ≡ axes_at col (suc (suc i)) (extents (axes_at col (suc (suc i)) es))
      behind = ap (axes_at col (suc (suc i))) (sym (extents-at (suc (suc i)) es))

      go : (c : Bool) → fuse_if c (axis_at col i e) (axis_at col (suc i) f) (axes_at col (suc (suc i)) es)
          ≡ axes_at col i (extents (fuse_if c (axis_at col i e) (axis_at col (suc i) f) (axes_at col (suc (suc i)) es)))
      go true = ap (λ (r : List Axis). axis_at col i (e * f) ∷ axis_at col (suc i) 1 ∷ r) behind
      go false = ap (λ (r : List Axis). axis_at col i e ∷ axis_at col (suc i) f ∷ r) behind

  pub fused_at_lem : (i : ℕ) (es : List ℕ) → fuse (axes_at col i es) ≡ axes_at col i (fused_at i es)
  fused_at_lem i [] = refl
  fused_at_lem i (e ∷ es) =
      ap (fuse_step (axis_at col i e)) (fused_at_lem (suc i) es)
      ∙ step-at i e (fused_at (suc i) es)
      ∙ ap (λ (r : List Axis). axes_at col i (extents (fuse_step (axis_at col i e) r))) (sym (fused_at_lem (suc i) es))

  -- one place more, in front of places that are fused
  pub fused_more : (i e f : ℕ) (es fs : List ℕ) → fused_at (suc i) es ≡ f ∷ fs
      → fused_at i (e ∷ es) ≡ cond (can_fuse (axis_at col i e) (axis_at col (suc i) f)) (e * f ∷ 1 ∷ fs) (e ∷ f ∷ fs)
  fused_more i e f es fs q =
      ap (λ (r : List Axis). extents (fuse_step (axis_at col i e) r)) (fused_at_lem (suc i) es ∙ ap (axes_at col (suc i)) q)
      ∙ go (can_fuse (axis_at col i e) (axis_at col (suc i) f))
    where
      go : (c : Bool) → extents (fuse_if c (axis_at col i e) (axis_at col (suc i) f) (axes_at col (suc (suc i)) fs)) ≡ cond c (e * f ∷ 1 ∷ fs) (e ∷ f ∷ fs)
      go true = ap (λ (r : List ℕ). e * f ∷ 1 ∷ r) (extents-at (suc (suc i)) fs)
      go false = ap (λ (r : List ℕ). e ∷ f ∷ r) (extents-at (suc (suc i)) fs)

  pub length_fused : (i : ℕ) (es : List ℕ) → length (fused_at i es) ≡ length es
  length_fused i es = length-extents (fuse (axes_at col i es)) ∙ length-fuse (axes_at col i es) ∙ length_at i es

  pub extents_places : (es ks : List ℕ) → Below (length es) ks → extents (pick no_axis (axes_at col 0 es) ks) ≡ pick 0 es ks
  extents_places es [] b = refl
  extents_places es (k ∷ ks) b =
      ap₂ (λ (x : ℕ) (r : List ℕ). x ∷ r) (ap (λ (x : Axis). x.extent) (get_d_place 0 es k b.0)) (extents_places es ks b.1)

-- ---- a layout's axes in an order

module _ (ss : List ℤ) (p m : ℕ) (es : List ℕ) where
  picked-at : (col : ℕ → List ℤ) (i : ℕ) (o : List ℕ) → Below (length es) o → ((j : ℕ) → j < length o → col (i + j) ≡ stride_column ss p (get_or o j 0) 0 m)
      → axes_at col i (pick 0 es o) ≡ pick no_axis (axes_from ss p m 0 es) o
  picked-at col i [] b f = refl
  picked-at col i (a ∷ o) b f =
      ap₂ (λ (x : Axis) (r : List Axis). x ∷ r) first
      (picked-at col (suc i) o b.1 (λ j h. let q : i + suc j ≡ suc i + j = omega arith in rw q at (f (suc j) (omega arith))))
    where
      first : axis_at col i (get_or es a 0) ≡ get_or (axes_from ss p m 0 es) a no_axis
      first =
          let q : i + 0 ≡ i = omega arith in
          let z : 0 + a ≡ a = omega arith in
          let c : col i ≡ stride_column ss p a 0 m = rw q at (f 0 (omega arith)) in
          ap (λ (l : List ℤ). record { extent = get_or es a 0; strides = l }) (c ∙ ap (λ (x : ℕ). stride_column ss p x 0 m) (sym z))
          ∙ sym (get_d_axis ss p m es 0 a b.0)

  -- named by the first n places of the order
  pub in_places : (order : List ℕ) (n : ℕ) → n ≤ length order → Below (length es) (take n order)
      → axes_by ss p m order (pick 0 es (take n order)) ≡ pick no_axis (axes_from ss p m 0 es) (take n order)
  in_places order n l b =
      picked-at (column_by ss p m order) 0 (take n order) b
      (λ j h. let z : 0 + j ≡ j = omega arith in
      let w : j < n = omega (arith, h, length-take-le n order l) in
      rw (z, get_or-take n order j 0 w))

-- ---- the places that stay, as arrays

module _ (ss : List ℤ) (p m : ℕ) (order fs : List ℕ) where
  row_places : (k : ℕ) → k < m → (ks : List ℕ) → Below (length fs) ks → row k (pick no_axis (axes_by ss p m order fs) ks) ≡ pick_row ss p (pick 0 order ks) k
  row_places k h [] b = refl
  row_places k h (j ∷ ks) b = ap₂ (λ (x : ℤ) (r : List ℤ). x ∷ r) at (row_places k h ks b.1)
    where
      at : get_or (get_or (axes_by ss p m order fs) j no_axis).strides k (pos 0) ≡ get_or (drop (k * p) ss) (get_or order j 0) (pos 0)
      at =
          let z : 0 + k ≡ k = omega arith in
          let y : 0 + j ≡ j = omega arith in
          ap (λ (x : Axis). get_or x.strides k (pos 0)) (get_d_place (column_by ss p m order) 0 fs j b.0)
          ∙ ap (λ (x : ℕ). get_or (column_by ss p m order x) k (pos 0)) y
          ∙ get_d_column ss p (get_or order j 0) m 0 k h
          ∙ ap (λ (x : ℕ). get_or ss (x * p + get_or order j 0) (pos 0)) z
          ∙ sym (get_or-drop (k * p) ss (get_or order j 0) (pos 0))

  pub table_places : (ks : List ℕ) → Below (length fs) ks
      → padded 512 (pos 0) (pick_rows ss p (pick 0 order ks) m) ≡ stride_table (pick no_axis (axes_by ss p m order fs) ks) m
  table_places ks b =
      ap (padded 512 (pos 0)) (sym (over-same (λ k. padded 64 (pos 0) (row k (pick no_axis (axes_by ss p m order fs) ks))) (λ k. padded 64 (pos 0) (pick_row ss p (pick 0 order ks) k)) 0 m
      (λ k x y. ap (padded 64 (pos 0)) (row_places k (omega arith) ks b))))
