-- Layouts: indices within extents place by place, a layout's axes with their extents and strides, and a plan's strides read back from its table.
-- Assumes nothing.
use Rattle.std.specs.Prelude.{◌≡◌, refl, true, List, [], ◌∷◌, ℕ, zero, suc, ◌+◌, ◌-◌, ◌*◌, ◌≤◌, ◌<◌, min, ltb, ℤ, pos, length, get_or, take, drop}
use Rattle.std.proofs.Common.{sym, ap, ◌∙◌, mul-le-mul_right, zero-add, arith, length-take, length-drop, ext_get_or, get_or-take, get_or-drop, ltb-true, lt-ltb}
use Rattle.std.proofs.lemmas.Bool.{false≢true}
use Rattle.strided.specs.Base.{padded, over, run}
use Rattle.strided.specs.Layout.{Axis, NoZero, Within, within, total, extents, row, stride_row, stride_column, axes_from, axes_of}
use Rattle.strided.specs.Plan.{stride_table}
use Rattle.laws.specs.Base.Tests.{and_both}
use Rattle.laws.specs.Base.Sums.{mul_pos, pos_mul}
use Rattle.laws.specs.Base.Arrays.{length-padded, get_d_padded, get_d_rows}

-- ---- an index within extents

pub within_true : (es x : List ℕ) → Within es x → within es x ≡ true
within_true [] [] h = refl
within_true [] (y ∷ x) h = absurd h
within_true (e ∷ es) [] h = absurd h
within_true (e ∷ es) (y ∷ x) h = rw (lt-ltb y e h.0) (within_true es x h.1)

pub true_within : (es x : List ℕ) → within es x ≡ true → Within es x
true_within [] [] h = tt
true_within [] (y ∷ x) h = absurd (false≢true h)
true_within (e ∷ es) [] h = absurd (false≢true h)
true_within (e ∷ es) (y ∷ x) h = let p = and_both (ltb y e) (within es x) h in (ltb-true y e p.0, true_within es x p.1)

pub within-length : (es x : List ℕ) → Within es x → length x ≡ length es
within-length [] [] h = refl
within-length [] (y ∷ x) h = absurd h
within-length (e ∷ es) [] h = absurd h
within-length (e ∷ es) (y ∷ x) h = ap suc (within-length es x h.1)

pub within-at : (es x : List ℕ) (j : ℕ) → Within es x → j < length es → get_or x j 0 < get_or es j 0
within-at [] x j r h = absurd (omega arith)
within-at (e ∷ es) [] j r h = absurd r
within-at (e ∷ es) (y ∷ x) zero r h = r.0
within-at (e ∷ es) (y ∷ x) (suc j) r h = within-at es x j r.1 (omega arith)

pub within-drop : (es x : List ℕ) (i : ℕ) → Within es x → Within (drop i es) (drop i x)
within-drop es x zero h = h
within-drop [] [] (suc i) h = tt
within-drop [] (y ∷ x) (suc i) h = absurd h
within-drop (e ∷ es) [] (suc i) h = absurd h
within-drop (e ∷ es) (y ∷ x) (suc i) h = within-drop es x i h.1

pub at-within : (es x : List ℕ) → length x ≡ length es → ((j : ℕ) → j < length es → get_or x j 0 < get_or es j 0) → Within es x
at-within [] [] e f = tt
at-within [] (y ∷ x) e f = absurd (omega arith)
at-within (a ∷ es) [] e f = absurd (omega arith)
at-within (a ∷ es) (y ∷ x) e f = (f 0 (omega arith), at-within es x (omega arith) (λ j h. f (suc j) (omega arith)))

pub nozero_at : (es : List ℕ) (j : ℕ) → NoZero es → j < length es → 0 < get_or es j 0
nozero_at [] j p h = absurd (omega arith)
nozero_at (e ∷ es) zero p h = p.0
nozero_at (e ∷ es) (suc j) p h = nozero_at es j p.1 (omega arith)

-- an index is there exactly where no extent is 0
pub within-total : (es x : List ℕ) → Within es x → 0 < total es
within-total [] [] h = omega arith
within-total [] (y ∷ x) h = absurd h
within-total (e ∷ es) [] h = absurd h
within-total (e ∷ es) (y ∷ x) h = pos_mul e (total es) (omega (arith, h.0)) (within-total es x h.1)

-- the total of the axes behind
pub total-drop : (es : List ℕ) (i : ℕ) → NoZero es → total (drop i es) ≤ total es
total-drop es zero p = omega arith
total-drop [] (suc i) p = omega arith
total-drop (e ∷ es) (suc i) p =
    let g : 1 * total es ≤ e * total es = mul-le-mul_right (total es) p.0 in
    omega (arith, total-drop es i p.1)

pub total_nozero : (es : List ℕ) → 0 < total es → NoZero es
total_nozero [] h = tt
total_nozero (e ∷ es) h = let p = mul_pos e (total es) h in (p.0, total_nozero es p.1)

-- and then an extent is at most the total
pub extent_le : (es : List ℕ) (i : ℕ) → 0 < total es → get_or es i 0 ≤ total es
extent_le [] i h = omega arith
extent_le (e ∷ es) zero h =
    let p = mul_pos e (total es) h in
    let g : 1 * e ≤ total es * e = mul-le-mul_right e p.1 in
    omega arith
extent_le (e ∷ es) (suc i) h =
    let p = mul_pos e (total es) h in
    let g : 1 * total es ≤ e * total es = mul-le-mul_right (total es) p.0 in
    omega (arith, extent_le es i p.1)

-- ---- axes

pub length-row : (k : ℕ) (axs : List Axis) → length (row k axs) ≡ length axs
length-row k [] = refl
length-row k (a ∷ axs) = ap suc (length-row k axs)

pub length-extents : (axs : List Axis) → length (extents axs) ≡ length axs
length-extents [] = refl
length-extents (a ∷ axs) = ap suc (length-extents axs)

-- operand k's strides are read back from the plan's table
pub table_row : (axs : List Axis) (m k : ℕ) → length axs ≤ 64 → m ≤ 8 → k < m → take (length axs) (drop (k * 64) (stride_table axs m)) ≡ row k axs
table_row axs m k h g p =
    ext_get_or (pos 0) (take r (drop (k * 64) S)) (row k axs) (long ∙ sym (length-row k axs))
    (λ i q. let q' : i < r = omega (arith, q, long) in
    get_or-take r (drop (k * 64) S) i (pos 0) q' ∙ get_or-drop (k * 64) S i (pos 0)
    ∙ get_d_padded (pos 0) 512 L (k * 64 + i) (omega arith)
    ∙ get_d_rows (pos 0) f (λ j. length-padded (pos 0) 64 (row j axs)) m 0 k i p (omega arith)
    ∙ ap (λ (j : ℕ). get_or (f j) i (pos 0)) (zero-add k)
    ∙ get_d_padded (pos 0) 64 (row k axs) i (omega arith))
  where
    r : ℕ
    r = length axs

    S : List ℤ
    S = stride_table axs m

    f : ℕ → List ℤ
    f j = padded 64 (pos 0) (row j axs)

    L : List ℤ
    L = over (run 0 m) f

    long : length (take r (drop (k * 64) S)) ≡ r
    long =
        let a : length (take r (drop (k * 64) S)) ≡ min r (length (drop (k * 64) S)) = length-take r (drop (k * 64) S) in
        let b : length (drop (k * 64) S) ≡ length S - k * 64 = length-drop (k * 64) S in
        let c : length S ≡ 512 = length-padded (pos 0) 512 L in
        omega (arith, a, b, c)

-- ---- the axes of a layout

pub extents-axes : (ss : List ℤ) (n m i : ℕ) (es : List ℕ) → extents (axes_from ss n m i es) ≡ es
extents-axes ss n m i [] = refl
extents-axes ss n m i (e ∷ es) = ap (λ r. e ∷ r) (extents-axes ss n m (suc i) es)

pub length-axes : (ss : List ℤ) (n m i : ℕ) (es : List ℕ) → length (axes_from ss n m i es) ≡ length es
length-axes ss n m i [] = refl
length-axes ss n m i (e ∷ es) = ap suc (length-axes ss n m (suc i) es)

pub get_d_column : (ss : List ℤ) (n i m s k : ℕ) → k < m → get_or (stride_column ss n i s m) k (pos 0) ≡ get_or ss ((s + k) * n + i) (pos 0)
get_d_column ss n i zero s k p = absurd (omega arith)
get_d_column ss n i (suc m) s zero p = let e : s + 0 ≡ s = omega arith in rw e
get_d_column ss n i (suc m) s (suc k) p =
    let e : s + suc k ≡ suc s + k = omega arith in
    rw e (get_d_column ss n i m (suc s) k (omega arith))

get_d_axes : (ss : List ℤ) (n m k : ℕ) → k < m → (es : List ℕ) (s i : ℕ) → i < length es
    → get_or (row k (axes_from ss n m s es)) i (pos 0) ≡ get_or ss (k * n + (s + i)) (pos 0)
get_d_axes ss n m k p [] s i q = absurd (omega arith)
get_d_axes ss n m k p (e ∷ es) s zero q =
    let g : s + 0 ≡ s = omega arith in
    rw g (get_d_column ss n s m 0 k p ∙ ap (λ (j : ℕ). get_or ss (j * n + s) (pos 0)) (zero-add k))
get_d_axes ss n m k p (e ∷ es) s (suc i) q =
    let g : s + suc i ≡ suc s + i = omega arith in
    rw g (get_d_axes ss n m k p es (suc s) i (omega arith))

pub axes-row : (es : List ℕ) (m : ℕ) (ss : List ℤ) (k : ℕ) → length ss ≡ length es * m → k < m → row k (axes_of es m ss) ≡ stride_row ss (length es) k
axes-row es m ss k h p =
    ext_get_or (pos 0) (row k (axes_of es m ss)) (stride_row ss n k) (rows ∙ sym long)
    (λ i q. let q' : i < n = omega (arith, q, rows) in
    get_d_axes ss n m k p es 0 i q' ∙ ap (λ (j : ℕ). get_or ss (k * n + j) (pos 0)) (zero-add i)
    ∙ sym (get_or-take n (drop (k * n) ss) i (pos 0) q' ∙ get_or-drop (k * n) ss i (pos 0)))
  where
    n : ℕ
    n = length es

    rows : length (row k (axes_of es m ss)) ≡ n
    rows = length-row k (axes_of es m ss) ∙ length-axes ss n m 0 es

    long : length (stride_row ss n k) ≡ n
    long =
        let a : length (take n (drop (k * n) ss)) ≡ min n (length (drop (k * n) ss)) = length-take n (drop (k * n) ss) in
        let b : length (drop (k * n) ss) ≡ length ss - k * n = length-drop (k * n) ss in
        let c : suc k * n ≤ m * n = mul-le-mul_right n p in
        omega (arith, a, b, c, h)
