-- Cells ahead of a summary, met one by one and run by run. Assumes nothing.
use Rattle.std.specs.Prelude.{◌≡◌, refl, true, List, [], ◌∷◌, ◌++◌, map, ℕ, zero, suc, ◌+◌, ◌-◌, ◌^◌, ◌≤◌, ◌<◌, T, ℤ, pos, negsuc, nat_abs, ◌+ℤ◌, ◌*ℤ◌, Float, length}
use Rattle.std.proofs.Common.{sym, ap, ◌∙◌, subst, arith, length-append, SFits, ltb-true}
use Rattle.std.proofs.lemmas.Bool.{false≢true}
use Rattle.std.proofs.lemmas.List.{map-append, length-map}
use Rattle.std.proofs.Math.Nat.{sub-zero}
use Rattle.std.proofs.Math.IntN.{+ℤ_assoc, +ℤ_comm, +ℤ_idr, zero-*ℤ, suc_ℤ-*ℤ}
use Rattle.std.specs.Int.Signed.{non_neg}
use Rattle.std.specs.Int.{w64}
use Rattle.laws.specs.Base.Integers.{add-*ℤ}
use Rattle.laws.specs.Base.Lists.{All}
use Rattle.summary.specs.declared.cell.Summary.{Summary}
use Rattle.summary.specs.declared.run.Part.{Part}
use Rattle.summary.specs.Sums.{with_cell, with_cells}
use Rattle.summary.proofs.Steps.{step_count, step-few, cells-append, cells_count, cells-few}
use Rattle.span.specs.Span.{in_cells}
use Rattle.summary.specs.Visits.{cell_of}
use Rattle.summary.specs.Ahead.{run_from, rows_from, Ahead, met, RunsFit}
use Rattle.summary.specs.Parts.{Went}

-- ---- an offset in the slice

pub in_non_neg : (n : ℕ) (o : ℤ) → in_cells n o ≡ true → T (non_neg o)
in_non_neg n (pos k) h = tt
in_non_neg n (negsuc k) h = absurd (false≢true h)

pub in_below : (n : ℕ) (o : ℤ) → in_cells n o ≡ true → nat_abs o < n
in_below n (pos k) h = ltb-true k n h
in_below n (negsuc k) h = absurd (false≢true h)

pub in_fits : (n : ℕ) (o : ℤ) → n < 2 ^ 63 → in_cells n o ≡ true → SFits w64 o
in_fits n (pos k) l h = record { sfits = let b = ltb-true k n h in omega (arith, b, l) }
in_fits n (negsuc k) l h = absurd (false≢true h)

-- ---- lists of them

all_left : (P : ℤ → Type 0) (xs ys : List ℤ) → All P (xs ++ ys) → All P xs
all_left P [] ys a = tt
all_left P (x ∷ xs) ys a = (a.0, all_left P xs ys a.1)

all_right : (P : ℤ → Type 0) (xs ys : List ℤ) → All P (xs ++ ys) → All P ys
all_right P [] ys a = a
all_right P (x ∷ xs) ys a = all_right P xs ys a.1

module _ {cells : List Float} {s : Summary} where
  -- the first cell, and those behind it
  module _ {o : ℤ} {os : List ℤ} (a : Ahead cells s (o ∷ os)) where
    pub ahead-here : in_cells (length cells) o ≡ true
    ahead-here = a.inside.0

    pub ahead-room : s.count < 2 ^ 64 - 1
    ahead-room = let r = a.room in omega (arith, r)

    pub ahead-next : Ahead cells (with_cell s (cell_of cells o)) os
    ahead-next = record {
      few = step-few s (cell_of cells o) a.few;
      room = let r = a.room in let e = step_count s (cell_of cells o) in omega (arith, r, e);
      inside = a.inside.1;
    }

  -- the first of several, and those behind them
  module _ (xs ys : List ℤ) (a : Ahead cells s (xs ++ ys)) where
    pub ahead-first : Ahead cells s xs
    ahead-first = record { few = a.few; room = let r = a.room in let e = length-append xs ys in omega (arith, r, e); inside = all_left (λ (o : ℤ). in_cells (length cells) o ≡ true) xs ys a.inside }

    pub ahead-rest : Ahead cells (met cells s xs) ys
    ahead-rest = record {
      few = cells-few s (map (cell_of cells) xs) a.few;
      room =
          let r = a.room in
          let e = length-append xs ys in
          let c = cells_count s (map (cell_of cells) xs) in
          let m = length-map xs (cell_of cells) in
          omega (arith, r, e, c, m);
      inside = all_right (λ (o : ℤ). in_cells (length cells) o ≡ true) xs ys a.inside;
    }

-- what they make of it
pub met-append : (cells : List Float) (s : Summary) (xs ys : List ℤ) → met cells s (xs ++ ys) ≡ met cells (met cells s xs) ys
met-append cells s xs ys = ap (with_cells s) (map-append (cell_of cells) xs ys) ∙ cells-append s (map (cell_of cells) xs) (map (cell_of cells) ys)

-- ---- along a run

pub move_none : (o t : ℤ) → o ≡ o +ℤ pos 0 *ℤ t
move_none o t = sym (ap (λ (z : ℤ). o +ℤ z) (zero-*ℤ t) ∙ +ℤ_idr o)

move_first : (o t : ℤ) (k : ℕ) → (o +ℤ t) +ℤ pos k *ℤ t ≡ o +ℤ pos (suc k) *ℤ t
move_first o t k = +ℤ_assoc o t (pos k *ℤ t) ∙ ap (λ (z : ℤ). o +ℤ z) (+ℤ_comm t (pos k *ℤ t) ∙ sym (suc_ℤ-*ℤ (pos k) t))

move_on : (o t : ℤ) (k m : ℕ) → (o +ℤ pos k *ℤ t) +ℤ pos m *ℤ t ≡ o +ℤ pos (k + m) *ℤ t
move_on o t k m = +ℤ_assoc o (pos k *ℤ t) (pos m *ℤ t) ∙ ap (λ (z : ℤ). o +ℤ z) (sym (add-*ℤ (pos k) (pos m) t))

pub move_last : (o t : ℤ) (k : ℕ) → (o +ℤ pos k *ℤ t) +ℤ t ≡ o +ℤ pos (suc k) *ℤ t
move_last o t k = +ℤ_assoc o (pos k *ℤ t) t ∙ ap (λ (z : ℤ). o +ℤ z) (sym (suc_ℤ-*ℤ (pos k) t))

pub run_many : (o t : ℤ) (n : ℕ) → length (run_from o t n) ≡ n
run_many o t zero = refl
run_many o t (suc n) = ap suc (run_many (o +ℤ t) t n)

-- its first cells, and those behind them
run_parts : (o t : ℤ) (a b : ℕ) → run_from o t (a + b) ≡ run_from o t a ++ run_from (o +ℤ pos a *ℤ t) t b
run_parts o t zero b =
    let e : 0 + b ≡ b = omega arith in
    ap (run_from o t) e ∙ ap (λ (y : ℤ). run_from y t b) (move_none o t)
run_parts o t (suc a) b =
    let e : suc a + b ≡ suc (a + b) = omega arith in
    ap (run_from o t) e ∙ ap (λ (l : List ℤ). o ∷ l) (run_parts (o +ℤ t) t a b ∙ ap (λ (y : ℤ). run_from (o +ℤ t) t a ++ run_from y t b) (move_first o t a))

pub ahead_some : {cells : List Float} {s : Summary} (o t : ℤ) (m n : ℕ) → m ≤ n → Ahead cells s (run_from o t n) → Ahead cells s (run_from o t m)
ahead_some {cells} {s} o t m n h a =
    let e : n ≡ m + (n - m) = omega (arith, h) in
    ahead-first (run_from o t m) (run_from (o +ℤ pos m *ℤ t) t (n - m)) (subst (Ahead cells s) (ap (run_from o t) e ∙ run_parts o t m (n - m)) a)

pub ahead-count : {cells : List Float} {s : Summary} (o t : ℤ) (n : ℕ) → Ahead cells s (run_from o t n) → s.count + n < 2 ^ 64
ahead-count o t n a = let r = a.room in let e = run_many o t n in omega (arith, r, e)

-- ---- a run, cell by cell

-- the first of a run that is not empty, and that it may be met
module _ (cells : List Float) (s : Summary) (o t : ℤ) (n : ℕ) (a : Ahead cells s (run_from o t n)) (h : 0 < n) where
  one-at-least : n ≡ suc (n - 1)
  one-at-least = omega (arith, h)

  first-ahead : Ahead cells s (o ∷ run_from (o +ℤ t) t (n - 1))
  first-ahead = subst (λ (m : ℕ). Ahead cells s (run_from o t m)) one-at-least a

  pub first_in : in_cells (length cells) o ≡ true
  first_in = ahead-here first-ahead

  pub first-room : (s.count < 2 ^ 64 - 1) × (s.nans ≤ s.count)
  first-room = (ahead-room first-ahead, a.few)

-- k of n cells are met, the last of them at o; `whole` is what all make
pub record Running (cells : List Float) (t : ℤ) (n : ℕ) (whole : Summary) (k : ℕ) (s : Summary) (o : ℤ) : Type 0 where
  pub ahead : Ahead cells s (run_from (o +ℤ t) t (n - k))
  pub goes : met cells s (run_from (o +ℤ t) t (n - k)) ≡ whole

pub running_first : (cells : List Float) (s : Summary) (o t : ℤ) (n : ℕ) → Ahead cells s (run_from o t n) → 0 < n → {s' : Summary} → s' ≡ with_cell s (cell_of cells o)
    → Running cells t n (met cells s (run_from o t n)) 1 s' o
running_first cells s o t n a h e =
    rw e (record { ahead = ahead-next (first-ahead cells s o t n a h); goes = ap (λ (m : ℕ). met cells s (run_from o t m)) (sym (one-at-least cells s o t n a h)) })

module _ {cells : List Float} {t : ℤ} {n : ℕ} {whole : Summary} {k : ℕ} {s : Summary} {o : ℤ} (r : Running cells t n whole k s o) where
  pub running_end : n ≤ k → s ≡ whole
  running_end h = let e : n - k ≡ 0 = omega (arith, h) in subst (λ (m : ℕ). met cells s (run_from (o +ℤ t) t m) ≡ whole) e r.goes

  module _ (h : k < n) where
    -- the next cell lies in the slice
    pub running_in : in_cells (length cells) (o +ℤ t) ≡ true
    running_in = first_in cells s (o +ℤ t) t (n - k) r.ahead (omega (arith, h))

    pub running_room : (s.count < 2 ^ 64 - 1) × (s.nans ≤ s.count)
    running_room = first-room cells s (o +ℤ t) t (n - k) r.ahead (omega (arith, h))

    pub running_next : {o' : ℤ} → o' ≡ o +ℤ t → {s' : Summary} → s' ≡ with_cell s (cell_of cells o') → Running cells t n whole (k + 1) s' o'
    running_next at {s'} e =
        let f = running_first cells s (o +ℤ t) t (n - k) r.ahead (omega (arith, h)) (e ∙ ap (λ (y : ℤ). with_cell s (cell_of cells y)) at) in
        let m : n - k - 1 ≡ n - (k + 1) = omega arith in
        rw at
        (record {
          ahead = subst (λ (i : ℕ). Ahead cells s' (run_from (o +ℤ t +ℤ t) t i)) m f.ahead;
          goes = subst (λ (i : ℕ). met cells s' (run_from (o +ℤ t +ℤ t) t i) ≡ whole) m (f.goes ∙ r.goes);
        })

-- several cells on
module _ {cells : List Float} {t : ℤ} {n : ℕ} {whole : Summary} {k : ℕ} {s : Summary} {o : ℤ} (r : Running cells t n whole k s o) (m : ℕ) (h : m ≤ n - k) where
  parts : run_from (o +ℤ t) t (n - k) ≡ run_from (o +ℤ t) t m ++ run_from ((o +ℤ pos m *ℤ t) +ℤ t) t (n - (k + m))
  parts =
      let e : n - k ≡ m + (n - (k + m)) = omega (arith, h) in
      ap (run_from (o +ℤ t) t) e ∙ run_parts (o +ℤ t) t m (n - (k + m))
      ∙ ap (λ (y : ℤ). run_from (o +ℤ t) t m ++ run_from y t (n - (k + m))) (move_first o t m ∙ sym (move_last o t m))

  pub running_on : {o' : ℤ} → o' ≡ o +ℤ pos m *ℤ t → {s' : Summary} → s' ≡ met cells s (run_from (o +ℤ t) t m) → Running cells t n whole (k + m) s' o'
  running_on at e =
      let xs : List ℤ = run_from (o +ℤ t) t m in
      let ys : List ℤ = run_from ((o +ℤ pos m *ℤ t) +ℤ t) t (n - (k + m)) in
      rw (at, e)
      (record {
        ahead = ahead-rest xs ys (subst (Ahead cells s) parts r.ahead);
        goes = sym (met-append cells s xs ys) ∙ ap (met cells s) (sym parts) ∙ r.goes;
      })

-- ---- the cells behind the one at `from`: k of n are met, and make s of `start`

pub record Going (cells : List Float) (t : ℤ) (n : ℕ) (start : Summary) (from : ℤ) (k : ℕ) (s : Summary) (o : ℤ) : Type 0 where
  pub most : k ≤ n
  pub runs : Running cells t n (met cells start (run_from (from +ℤ t) t n)) k s o
  pub makes : s ≡ met cells start (run_from (from +ℤ t) t k)
  pub at : o ≡ from +ℤ pos k *ℤ t

pub going_none : {cells : List Float} {s : Summary} {o t : ℤ} {n : ℕ} → Ahead cells s (run_from (o +ℤ t) t n) → Going cells t n s o 0 s o
going_none {cells} {s} {o} {t} {n} a =
    record { most = omega arith; runs = record { ahead = rw (sub-zero n) a; goes = rw (sub-zero n) }; makes = refl; at = move_none o t }

module _ {cells : List Float} {t : ℤ} {n : ℕ} {start : Summary} {from : ℤ} {k : ℕ} {s : Summary} {o : ℤ} (g : Going cells t n start from k s o) where
  pub going_went : Went cells start from t k (record { summary = s; met = k; last = o })
  going_went = record { many = refl; makes = g.makes; ends = g.at }

  -- several at once
  pub going_on : (m : ℕ) → k + m ≤ n → {o' : ℤ} → o' ≡ o +ℤ pos m *ℤ t → {s' : Summary} → s' ≡ met cells s (run_from (o +ℤ t) t m) → Going cells t n start from (k + m) s' o'
  going_on m h at e =
      let there : (from +ℤ t) +ℤ pos k *ℤ t ≡ o +ℤ t = move_first from t k ∙ sym (move_last from t k) ∙ ap (λ (z : ℤ). z +ℤ t) (sym g.at) in
      record {
        most = h;
        runs = running_on g.runs m (omega (arith, h)) at e;
        makes =
            e ∙ ap (λ (u : Summary). met cells u (run_from (o +ℤ t) t m)) g.makes
            ∙ ap (λ (z : ℤ). met cells (met cells start (run_from (from +ℤ t) t k)) (run_from z t m)) (sym there)
            ∙ sym (met-append cells start (run_from (from +ℤ t) t k) (run_from ((from +ℤ t) +ℤ pos k *ℤ t) t m))
            ∙ ap (met cells start) (sym (run_parts (from +ℤ t) t k m));
        at = at ∙ ap (λ (z : ℤ). z +ℤ pos m *ℤ t) g.at ∙ move_on from t k m;
      }

  -- one more
  pub going_next : k < n → {o' : ℤ} → o' ≡ o +ℤ t → {s' : Summary} → s' ≡ with_cell s (cell_of cells o') → Going cells t n start from (k + 1) s' o'
  going_next h at e =
      going_on 1 (omega (arith, h)) (at ∙ ap (λ (z : ℤ). z +ℤ t) (move_none o t) ∙ move_last o t 0) (e ∙ ap (λ (z : ℤ). with_cell s (cell_of cells z)) at)

-- a part of them
pub going_part : {cells : List Float} {s : Summary} {o t : ℤ} {n m : ℕ} {p : Part} → Ahead cells s (run_from (o +ℤ t) t n) → m ≤ n → Went cells s o t m p → Going cells t n s o m p.summary p.last
going_part {cells} {s} {o} {t} {n} {m} {p} a h w =
    let from_none : 0 + m ≡ m = omega arith in
    subst (λ (k : ℕ). Going cells t n s o k p.summary p.last) from_none (going_on (going_none a) m (omega (arith, h)) w.ends w.makes)

-- two more
module _ {cells : List Float} {t : ℤ} {n : ℕ} {start : Summary} {from : ℤ} {k : ℕ} {s : Summary} {o : ℤ} (g : Going cells t n start from k s o) (h : k + 1 < n) where
  first_of_two : k < n
  first_of_two = omega (arith, h)

  pub first_of_two_in : in_cells (length cells) (o +ℤ t) ≡ true
  first_of_two_in = running_in g.runs first_of_two

  module _ {o' : ℤ} (at : o' ≡ o +ℤ t) where
    one_met : Going cells t n start from (k + 1) (with_cell s (cell_of cells o')) o'
    one_met = going_next g first_of_two at refl

    pub second_of_two_in : in_cells (length cells) (o' +ℤ t) ≡ true
    second_of_two_in = running_in one_met.runs h

    pub two_room : (s.count + 1 < 2 ^ 64 - 1) × (s.nans ≤ s.count)
    two_room =
        let r = running_room one_met.runs h in
        let c = step_count s (cell_of cells o') in
        (omega (arith, r.0, c), (running_room g.runs first_of_two).1)

    pub going_two : {o'' : ℤ} → o'' ≡ o' +ℤ t → {s' : Summary} → s' ≡ with_cell (with_cell s (cell_of cells o')) (cell_of cells o'')
        → Going cells t n start from (k + 1 + 1) s' o''
    going_two at' e = going_next one_met h at' e

-- ---- rows of runs, run by run

pub runs_fit_on : (o d : ℤ) (c : ℕ) → RunsFit o d (suc c) → RunsFit (o +ℤ d) d c
runs_fit_on o d c f j h = subst (SFits w64) (sym (move_first o d j)) (f (suc j) (omega (arith, h)))

runs_fit-first : (o d : ℤ) (c : ℕ) → 0 < c → RunsFit o d c → SFits w64 o
runs_fit-first o d c h f = subst (SFits w64) (sym (move_none o d)) (f 0 h)

pub record Rowing (cells : List Float) (d : ℤ) (c : ℕ) (t : ℤ) (n : ℕ) (whole : Summary) (j : ℕ) (s : Summary) (o : ℤ) : Type 0 where
  pub most : j ≤ c
  pub fit : RunsFit o d (c - j)
  pub ahead : Ahead cells s (rows_from o d (c - j) t n)
  pub goes : met cells s (rows_from o d (c - j) t n) ≡ whole

pub rowing_none : {cells : List Float} {s : Summary} {o d t : ℤ} {c n : ℕ} → RunsFit o d c → Ahead cells s (rows_from o d c t n) → Rowing cells d c t n (met cells s (rows_from o d c t n)) 0 s o
rowing_none {cells} {s} {o} {d} {t} {c} {n} f a = record { most = omega arith; fit = subst (RunsFit o d) (sym (sub-zero c)) f; ahead = rw (sub-zero c) a; goes = rw (sub-zero c) }

module _ {cells : List Float} {d : ℤ} {c : ℕ} {t : ℤ} {n : ℕ} {whole : Summary} {j : ℕ} {s : Summary} {o : ℤ} (r : Rowing cells d c t n whole j s o) where
  pub rowing_end : c ≤ j → s ≡ whole
  rowing_end h = let e : c - j ≡ 0 = omega (arith, h) in subst (λ (m : ℕ). met cells s (rows_from o d m t n) ≡ whole) e r.goes

  module _ (h : j < c) where
    one-row : c - j ≡ suc (c - (j + 1))
    one-row = omega (arith, h)

    row_here : Ahead cells s (run_from o t n ++ rows_from (o +ℤ d) d (c - (j + 1)) t n)
    row_here = subst (λ (m : ℕ). Ahead cells s (rows_from o d m t n)) one-row r.ahead

    pub rowing_run : Ahead cells s (run_from o t n)
    rowing_run = ahead-first (run_from o t n) (rows_from (o +ℤ d) d (c - (j + 1)) t n) row_here

    fit-rest : RunsFit (o +ℤ d) d (c - (j + 1))
    fit-rest = runs_fit_on o d (c - (j + 1)) (subst (RunsFit o d) one-row r.fit)

    -- where another run follows its first offset fits
    pub rowing_fits : j + 1 < c → SFits w64 (o +ℤ d)
    rowing_fits g = runs_fit-first (o +ℤ d) d (c - (j + 1)) (omega (arith, g)) fit-rest

    row-rest : Ahead cells (met cells s (run_from o t n)) (rows_from (o +ℤ d) d (c - (j + 1)) t n)
    row-rest = ahead-rest (run_from o t n) (rows_from (o +ℤ d) d (c - (j + 1)) t n) row_here

    row_goes : met cells (met cells s (run_from o t n)) (rows_from (o +ℤ d) d (c - (j + 1)) t n) ≡ whole
    row_goes =
        sym (met-append cells s (run_from o t n) (rows_from (o +ℤ d) d (c - (j + 1)) t n))
        ∙ subst (λ (m : ℕ). met cells s (rows_from o d m t n) ≡ whole) one-row r.goes

    module _ {s' : Summary} (is : s' ≡ met cells s (run_from o t n)) where
      pub rowing_next : {o' : ℤ} → o' ≡ o +ℤ d → Rowing cells d c t n whole (j + 1) s' o'
      rowing_next e = rw (is, e) (record { most = omega (arith, h); fit = fit-rest; ahead = row-rest; goes = row_goes })

      pub rowing_last : c ≤ j + 1 → {o' : ℤ} → Rowing cells d c t n whole (j + 1) s' o'
      rowing_last g {o'} =
          let m : Summary = met cells s (run_from o t n) in
          let z : c - (j + 1) ≡ 0 = omega (arith, g) in
          let a : Ahead cells m [] = subst (λ (i : ℕ). Ahead cells m (rows_from (o +ℤ d) d i t n)) z row-rest in
          let e : m ≡ whole = subst (λ (i : ℕ). met cells m (rows_from (o +ℤ d) d i t n) ≡ whole) z row_goes in
          rw is (record {
            most = omega (arith, h);
            fit = λ i b. absurd (let y : ⊥ = omega (arith, z, b) in y);
            ahead = subst (λ (i : ℕ). Ahead cells m (rows_from o' d i t n)) (sym z) a;
            goes = subst (λ (i : ℕ). met cells m (rows_from o' d i t n) ≡ whole) (sym z) e;
          })

-- ---- rows without cells

pub rows_empty : (o d : ℤ) (c : ℕ) (t : ℤ) → rows_from o d c t 0 ≡ []
rows_empty o d zero t = refl
rows_empty o d (suc c) t = rows_empty (o +ℤ d) d c t

pub none_met : (cells : List Float) (s : Summary) (o d : ℤ) (c : ℕ) (t : ℤ) {n : ℕ} → n ≡ 0 → s ≡ met cells s (rows_from o d c t n)
none_met cells s o d c t {n} e = sym (ap (λ (m : ℕ). met cells s (rows_from o d c t m)) e ∙ ap (met cells s) (rows_empty o d c t))
