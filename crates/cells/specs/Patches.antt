-- The cells of a patch, by their two numbers; and run after run.
-- Assumes nothing.
use Rattle.std.specs.Prelude.{◌≡◌, ◌⊎◌, ℕ, zero, suc, ◌+◌, ◌≤◌, ◌<◌}
use Rattle.std.proofs.Math.Path.{refl, ap, subst}
use Rattle.std.proofs.Common.{sym, ◌∙◌, inl, inr, ⊎_elim, eq-or-lt_of_le, arith}
use mathlib.Core.List.{List, [], ◌∷◌, ◌++◌, map, map-append}
use Rattle.std.proofs.Math.Nat.{zero-add}
use Rattle.strided.specs.Base.{over, run}
use Rattle.laws.specs.Base.Lists.{run-append, over_last}
use Rattle.cells.specs.declared.Side.{Side}
use Rattle.cells.specs.Copy.{Pair, pair, In, AllIn}
use Rattle.cells.specs.Meaning.{to_eq, from_eq}
use Rattle.cells.specs.Patch.{cell_at, run_cells, patch_cells, Lies}

-- ---- members

module _ {A : Type 0} where
  pub in_left : (p : A) (ps qs : List A) → In p ps → In p (ps ++ qs)
  in_left p [] qs m = absurd m
  in_left p (x ∷ ps) qs m = ⊎_elim (λ e. inl e) (λ v. inr (in_left p ps qs v)) m

  pub in_right : (p : A) (ps qs : List A) → In p qs → In p (ps ++ qs)
  in_right p [] qs m = m
  in_right p (x ∷ ps) qs m = inr (in_right p ps qs m)

  pub in_append : (p : A) (ps qs : List A) → In p (ps ++ qs) → In p ps ⊎ In p qs
  in_append p [] qs m = inr m
  in_append p (x ∷ ps) qs m = ⊎_elim (λ e. inl (inl e)) (λ v. ⊎_elim (λ l. inl (inr l)) (λ r. inr r) (in_append p ps qs v)) m

module _ {A B : Type 0} where
  pub map_each : (f : A → B) (l : List A) (x : A) → In x l → In (f x) (map f l)
  map_each f [] x m = absurd m
  map_each f (a ∷ l) x m = ⊎_elim (λ e. inl (ap f e)) (λ v. inr (map_each f l x v)) m

  pub map_only : (f : A → B) (l : List A) (y : B) → In y (map f l) → (x : A) × In x l × (y ≡ f x)
  map_only f [] y m = absurd m
  map_only f (a ∷ l) y m = ⊎_elim (λ e. (a, inl refl, e)) (λ v. let r = map_only f l y v in (r.0, inr r.1, r.2)) m

  pub over_each : (p : B) (l : List A) (f : A → List B) (x : A) → In x l → In p (f x) → In p (over l f)
  over_each p [] f x m i = absurd m
  over_each p (a ∷ l) f x m i =
      ⊎_elim (λ e. in_left p (f a) (over l f) (subst (λ b. In p (f b)) e i)) (λ v. in_right p (f a) (over l f) (over_each p l f x v i)) m

  pub over_only : (p : B) (l : List A) (f : A → List B) → In p (over l f) → (x : A) × In x l × In p (f x)
  over_only p [] f m = absurd m
  over_only p (a ∷ l) f m =
      ⊎_elim (λ h. (a, inl refl, h)) (λ t. let r = over_only p l f t in (r.0, inr r.1, r.2)) (in_append p (f a) (over l f) m)

pub run_in_lem : (n s x : ℕ) → s ≤ x → x < s + n → In x (run s n)
run_in_lem zero s x h l = absurd (let z : ⊥ = omega (arith, h, l) in z)
run_in_lem (suc n) s x h l = ⊎_elim (λ e. inl (sym e)) (λ q. inr (run_in_lem n (suc s) x q (omega (arith, l)))) (eq-or-lt_of_le h)

pub run-within : (n s x : ℕ) → In x (run s n) → (s ≤ x) × (x < s + n)
run-within zero s x m = absurd m
run-within (suc n) s x m =
    ⊎_elim
    (λ e. ((let g : s ≤ x = omega (arith, e) in g), (let g : x < s + suc n = omega (arith, e) in g)))
    (λ v. let r = run-within n (suc s) x v in
    let a : suc s ≤ x = r.0 in
    let b : x < suc s + n = r.1 in
    ((let g : s ≤ x = omega (arith, a) in g), (let g : x < s + suc n = omega (arith, b) in g)))
    m

-- ---- the cells by their numbers

module _ (n0 : ℕ) (to from : Side) where
  pub run_each : (i j : ℕ) → i < n0 → In (cell_at to from j i) (run_cells n0 to from j)
  run_each i j h = map_each (cell_at to from j) (run 0 n0) i (run_in_lem n0 0 i (omega arith) (omega (arith, h)))

  pub run_only : (j : ℕ) (p : Pair) → In p (run_cells n0 to from j) → (i : ℕ) × (i < n0) × (p ≡ cell_at to from j i)
  run_only j p m =
      let r = map_only (cell_at to from j) (run 0 n0) p m in
      let b : r.0 < 0 + n0 = (run-within n0 0 r.0 r.1).1 in
      (r.0, (let g : r.0 < n0 = omega (arith, b) in g), r.2)

  -- EACH CELL of the patch is listed, and nothing else
  pub patch_each : (n1 i j : ℕ) → i < n0 → j < n1 → In (cell_at to from j i) (patch_cells n0 n1 to from)
  unfolding patch_cells
  patch_each n1 i j h k = over_each (cell_at to from j i) (run 0 n1) (run_cells n0 to from) j (run_in_lem n1 0 j (omega arith) (omega (arith, k))) (run_each i j h)

  pub patch_only : (n1 : ℕ) (p : Pair) → In p (patch_cells n0 n1 to from) → (i j : ℕ) × (i < n0) × (j < n1) × (p ≡ cell_at to from j i)
  unfolding patch_cells
  patch_only n1 p m =
      let o = over_only p (run 0 n1) (run_cells n0 to from) m in
      let r = run_only o.0 p o.2 in
      let b : o.0 < 0 + n1 = (run-within n1 0 o.0 o.1).1 in
      (r.0, o.0, r.1, (let g : o.0 < n1 = omega (arith, b) in g), r.2)

  -- ---- one run more

  pub patch_none : patch_cells n0 0 to from ≡ []
  unfolding patch_cells
  patch_none = refl

  pub patch-next : (n1 : ℕ) → patch_cells n0 (n1 + 1) to from ≡ patch_cells n0 n1 to from ++ run_cells n0 to from n1
  unfolding patch_cells
  patch-next n1 =
      let z : 0 + n1 ≡ n1 = zero-add n1 in
      ap (λ (l : List ℕ). over l (run_cells n0 to from)) (run-append n1 1 0 ∙ ap (λ (k : ℕ). run 0 n1 ++ (k ∷ [])) z)
      ∙ over_last (run 0 n1) n1 (run_cells n0 to from)

-- and one cell more of a run
pub run-next : (n0 : ℕ) (to from : Side) (j : ℕ) → run_cells (n0 + 1) to from j ≡ run_cells n0 to from j ++ (cell_at to from j n0 ∷ [])
run-next n0 to from j =
    let z : 0 + n0 ≡ n0 = zero-add n0 in
    ap (map (cell_at to from j)) (run-append n0 1 0 ∙ ap (λ (k : ℕ). run 0 n0 ++ (k ∷ [])) z)
    ∙ map-append (cell_at to from j) (run 0 n0) (n0 ∷ [])

-- ---- where both sides lie in their buffers every cell does

module _ (w m n n0 n1 : ℕ) (to from : Side) (f : Lies w m n0 n1 to) (g : Lies w n n0 n1 from) where
  pub patch_in : AllIn w m n (patch_cells n0 n1 to from)
  unfolding Lies
  patch_in d s e =
      let o = patch_only n0 to from n1 (pair d s) e in (
        subst (λ (x : ℕ). x + w ≤ m) (sym (to_eq o.4)) (f o.0 o.1 o.2 o.3).to,
        subst (λ (x : ℕ). x + w ≤ n) (sym (from_eq o.4)) (g o.0 o.1 o.2 o.3).to,
      )
