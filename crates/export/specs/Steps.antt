-- How far it is between two cells of a buffer: less than the buffer has cells.
-- Assumes nothing.
use Rattle.std.specs.Prelude.{◌≡◌, refl, Bool, true, false, cond, ℕ, suc, ◌+◌, ◌-◌, ◌≤◌, ◌<◌, max, ltb, ℤ, pos, negsuc, nat_abs, neg_ℤ, ◌+ℤ◌, ◌*ℤ◌}
use Rattle.std.proofs.Common.{sym, ap, ◌∙◌, one-mul, arith, ltb-true, ltb-false}
use Rattle.std.proofs.lemmas.Bool.{false≢true}
use Rattle.std.proofs.Math.IntN.{zero-*ℤ, +ℤ_idr}
use Rattle.std.specs.Int.Signed.{non_neg}
use Rattle.span.specs.Span.{in_cells}

-- the step between two places that are not below 0
diff_small : (x y : ℕ) (t : ℤ) → pos x +ℤ t ≡ pos y → nat_abs t ≤ max x y
diff_small x y (pos n) e = let q : x + n ≡ y = ap nat_abs e in omega arith
diff_small x y (negsuc n) e = go (ltb x (suc n)) refl e
  where
    go : (b : Bool) → ltb x (suc n) ≡ b → cond b (negsuc (suc n - suc x)) (pos (x - suc n)) ≡ pos y → suc n ≤ max x y
    go true q h = let z : ◌≡◌ {A = Bool} false true = ap non_neg h in absurd (false≢true z)
    go false q h = let l = ltb-false x (suc n) q in omega (arith, l)

cell_number : (n : ℕ) (z : ℤ) → in_cells n z ≡ true → (x : ℕ) × (z ≡ pos x) × (x < n)
cell_number n (pos a) h = (a, refl, ltb-true a n h)
cell_number n (negsuc a) h = absurd (false≢true h)

-- BETWEEN TWO CELLS
pub step_small : (n : ℕ) (z t : ℤ) → in_cells n z ≡ true → in_cells n (z +ℤ t) ≡ true → nat_abs t < n
step_small n z t a b =
    let p = cell_number n z a in
    let q = cell_number n (z +ℤ t) b in
    let e : pos p.0 +ℤ t ≡ pos q.0 = ap (λ (y : ℤ). y +ℤ t) (sym p.1) ∙ q.1 in
    let m = diff_small p.0 q.0 t e in
    let x : p.0 < n = p.2 in
    let y : q.0 < n = q.2 in
    omega (arith, m, x, y)

-- no step, and one
pub none_time : (z u : ℤ) → z +ℤ pos 0 *ℤ u ≡ z
none_time z u = ap (λ (y : ℤ). z +ℤ y) (zero-*ℤ u) ∙ +ℤ_idr z

pub one_time : (t : ℤ) → pos 1 *ℤ t ≡ t
one_time (pos n) = ap pos (one-mul n)
one_time (negsuc n) = ap (λ (m : ℕ). neg_ℤ (pos m)) (one-mul (suc n))
