-- The steps of planning: the extents in the order, fused, and the axes without those of extent 1, are the axes of the plan.
-- Assumes nothing.
use mathlib.Core.Path.{◌≡◌, sym, ap, ap₂, ◌∙◌, subst}
use mathlib.Core.Bool.{true}
use mathlib.Core.List.{List}
use Prim.Native.Nat.{ℕ, ◌≤◌}
use native.Mathlib.Omega.{arith}
use lib.IntN.{ℤ}
use lib.ListN.{length, take, drop, replicate, length-replicate}
use lib.Seq.{take_all}
use Rattle.strided.specs.Base.{padded}
use Rattle.strided.specs.Layout.{Axis, no_axis, extents, axes_of}
use Rattle.strided.specs.Order.{pick}
use Rattle.strided.specs.Step.{blank}
use Rattle.strided.specs.Fuse.{fuse, compress, fused_axes}
use Rattle.laws.specs.Base.Arrays.{take_counted, blank-ℕ, blank_behind}
use Rattle.laws.specs.Base.Stores.{blank-first}
use Rattle.laws.specs.Base.Layouts.{length-extents}
use Rattle.laws.specs.Order.Picked.{length-pick}
use Rattle.laws.specs.Fuse.Places.{axes_by, column_by, fused_at_lem, in_places}
use Rattle.laws.specs.Fuse.Arrays.{Below, length-fuse}
use Rattle.layout.specs.Fitting.{Fitting}
use Rattle.arrange.specs.Axes.{InOrder, Named}
use Rattle.arrange.specs.Fusing.{order_below}
use Rattle.fuse.specs.Planned.{extents_in}

-- an array of zeros is 0 behind any count
pub zeros_behind : (n : ℕ) → n ≤ 64 → blank (drop n (replicate 64 0)) ≡ true
zeros_behind n h =
    ap (λ (l : List ℕ). blank (drop n l)) (blank-first 0 64 n h) ∙ blank_behind blank-ℕ 64 n (replicate n 0) (length-replicate {A = ℕ} n 0)

-- a layout's axes in an order, read by rows of strides that are the layout's
module _ (es : List ℕ) {m : ℕ} {ss : List ℤ} {order : List ℕ} (f : Fitting ss (length es) m) (t : InOrder (length es) order)
    {rs : List ℤ} {p o : ℕ} (same : rs ≡ ss) (pitch : p ≡ length es) (operands : o ≡ m) where
  abbrev axes : List Axis
  axes = pick no_axis (axes_of es m ss) order

  few : length order ≤ 64
  few = omega (arith, f.rank-few, t.all)

  pub named : Named p o order
  named = record { few-axes = few; few_operands = omega (arith, f.operands_few); inside = λ j h. omega (arith, t.inside j (omega (arith, t.all))) }

  rows : (fs : List ℕ) → axes_by rs p o order fs ≡ axes_by ss (length es) m order fs
  rows fs = ap (λ (l : List ℤ). axes_by l p o order fs) same ∙ ap₂ (λ (x y : ℕ). axes_by ss x y order fs) pitch operands

  whole : take (length order) order ≡ order
  whole = take_all (length order) order (omega arith)

  placed : axes_by rs p o order (pick 0 es order) ≡ pick no_axis (axes_of es m ss) order
  placed =
      let below : Below (length es) (take (length order) order) = subst (Below (length es)) (sym whole) (order_below t) in
      rows (pick 0 es order)
      ∙ subst (λ (x : List ℕ). axes_by ss (length es) m order (pick 0 es x) ≡ pick no_axis (axes_of es m ss) x) whole
      (in_places ss (length es) m es order (length order) (omega arith) below)

  -- the extents in the order
  module _ {E : List ℕ} (put : E ≡ padded 64 0 (pick 0 es order)) where
    taken : take (length order) E ≡ pick 0 es order
    taken = ap (take (length order)) put ∙ take_counted 0 64 (length order) (pick 0 es order) (length-pick 0 es order) few

    pub put-padded : E ≡ padded 64 0 (take (length order) E)
    put-padded = put ∙ ap (padded 64 0) (sym taken)

    -- and fused
    pub put-fused : {F : List ℕ} → F ≡ padded 64 0 (extents (fuse (axes_by rs p o order (take (length order) E)))) → F ≡ padded 64 0 (extents_in es m ss order)
    put-fused made = made ∙ ap (λ (xs : List Axis). padded 64 0 (extents (fuse xs))) (ap (axes_by rs p o order) taken ∙ placed)

  -- the fused extents
  module _ {F : List ℕ} (made : F ≡ padded 64 0 (extents_in es m ss order)) {n : ℕ} (all : n ≡ length order) where
    fused-long : length (extents_in es m ss order) ≡ n
    fused-long =
        length-extents (fuse (pick no_axis (axes_of es m ss) order))
        ∙ length-fuse (pick no_axis (axes_of es m ss) order)
        ∙ length-pick no_axis (axes_of es m ss) order
        ∙ sym all

    made-taken : take n F ≡ extents_in es m ss order
    made-taken = ap (take n) made ∙ take_counted 0 64 n (extents_in es m ss order) fused-long (omega (arith, few))

    pub made_long : length order ≡ length (take n F)
    made_long = omega (arith, ap length made-taken, fused-long)

    made-axes : compress (axes_by rs p o order (take n F)) ≡ fused_axes (pick no_axis (axes_of es m ss) order)
    made-axes =
        ap (λ (fs : List ℕ). compress (axes_by rs p o order fs)) made-taken
        ∙ ap compress (subst (λ (xs : List Axis). axes_by rs p o order (extents (fuse xs)) ≡ fuse xs) placed (sym (fused_at_lem (column_by rs p o order) 0 (pick 0 es order))))

    -- what the arrays of those axes are, they are of the plan's axes
    pub as_planned : {A : Type 0} (f : List Axis → ℕ → A) {x : A} → x ≡ f (compress (axes_by rs p o order (take n F))) o
        → x ≡ f (fused_axes (pick no_axis (axes_of es m ss) order)) m
    as_planned f q = q ∙ ap₂ f made-axes operands
