-- The table of a layout's ranks: its rows fit, and laid one behind the other they are the session's ranks; with a row more or less it is the
-- table of the layout with an operand more or less. Assumes nothing.
use mathlib.Core.Path.{◌≡◌, refl, sym, ap, ap₂, ◌∙◌, subst}
use mathlib.Core.Logic.{◌⊎◌, inl, inr, ⊎_elim}
use mathlib.Core.Bool.{true}
use mathlib.Core.List.{List, [], ◌∷◌, ◌++◌, map, map-append}
use Prim.Native.Nat.{ℕ, zero, suc, ◌+◌, ◌-◌, ◌*◌, ◌≤◌, ◌<◌}
use native.Mathlib.Decide.{dec_le}
use native.Mathlib.Omega.{arith}
use lib.IntN.{ℤ, pos, nat_abs}
use lib.ListN.{length, get_or, take, drop, replicate, length-take, length-replicate, get_or-replicate, get_or-eq_default}
use lib.Seq.{length-take-le}
use Rattle.strided.specs.Base.{padded, over, run}
use Rattle.strided.specs.Layout.{stride_row}
use Rattle.strided.specs.Ranks.{rank_of, ranks, rank_table}
use Rattle.strided.specs.Step.{blank}
use Rattle.laws.specs.Base.Arrays.{length-padded, get_d_padded, take_counted, blank-ℕ, blank_behind}
use Rattle.laws.specs.Base.Rows.{length_strides}
use Rattle.laws.specs.Base.Filling.{length-rows, fill_at}
use Rattle.laws.specs.Base.Lists.{All, get_d_run, over-map, over_last, run-append}
use Rattle.laws.specs.Order.Ranks.{rank_le, ranks_places, table_rows}
use Rattle.strided.specs.declared.Machine.{Machine}
use Rattle.strided.specs.declared.Purpose.{Purpose}
use Rattle.layout.specs.Fitting.{Fitting}
use Rattle.session.specs.Tabled.{Tabled}
use Rattle.session.specs.Session.{given, ranks_of, old_place, strides_without}
use Rattle.session.specs.Afresh.{old-there, row_moves, few_strides}
use Rattle.session.specs.Tables.{rows_agree, table_joined}
use Rattle.session.specs.Made.{RankRow, Even, rows_of, ranks_in}

abbrev pub zero_row : List ℕ
zero_row = replicate 64 0

abbrev pub table_of : List ℤ → ℕ → ℕ → List (List ℕ)
table_of ss rank m = padded 8 zero_row (map (padded 64 0) (rank_table ss rank m))

-- ---- its rows

le_or_lt : (a b : ℕ) → (a ≤ b) ⊎ (b < a)
le_or_lt a b = elim (dec_le a b) [ yes h ↦ inl h | no h ↦ inr (omega arith) ]

rank-few : (ss : List ℤ) (i : ℕ) → length ss ≤ 64 → get_or (ranks ss) i 0 < 256
rank-few ss i h = ⊎_elim
    (λ (l : length ss ≤ i). let e = get_or-eq_default (ranks ss) 0 (let n = ap length (ranks_places ss) ∙ length-rows (λ i. rank_of ss (nat_abs (get_or ss i (pos 0)))) 0 (length ss) in let q : length (ranks ss) ≤ i = omega (arith, n, l) in q) in omega (arith, e))
    (λ (l : i < length ss). let e = ap (λ (r : List ℕ). get_or r i 0) (ranks_places ss) ∙ get_d_run (λ i. rank_of ss (nat_abs (get_or ss i (pos 0)))) 0 (length ss) 0 i l
    ∙ ap (λ (j : ℕ). rank_of ss (nat_abs (get_or ss j (pos 0)))) (let z : 0 + i ≡ i = omega arith in z) in
    let m = rank_le ss i l in omega (arith, e, m, h))
    (le_or_lt (length ss) i)

rank-row : (ss : List ℤ) → length ss ≤ 64 → RankRow (padded 64 0 (ranks ss))
rank-row ss h =
    record {
      long = length-padded 0 64 (ranks ss);
      small = λ i l. let e = get_d_padded 0 64 (ranks ss) i l in let f = rank-few ss i h in omega (arith, e, f);
    }

zero_row_lem : RankRow zero_row
zero_row_lem = record { long = length-replicate {A = ℕ} 64 0; small = λ i l. let e = get_or-replicate {A = ℕ} 64 i 0 0 l in omega (arith, e) }

padded-rows : (n : ℕ) (rs : List (List ℕ)) → All RankRow rs → (k : ℕ) → k < n → RankRow (get_or (padded n zero_row rs) k [])
padded-rows zero rs a k h = absurd (omega arith)
padded-rows (suc n) [] a zero h = zero_row_lem
padded-rows (suc n) [] a (suc k) h = padded-rows n [] tt k (omega arith)
padded-rows (suc n) (r ∷ rs) a zero h = a.0
padded-rows (suc n) (r ∷ rs) a (suc k) h = padded-rows n rs a.1 k (omega arith)

all-rows : (f : ℕ → List ℕ) (n s : ℕ) → ((j : ℕ) → RankRow (f j)) → All RankRow (map f (run s n))
all-rows f zero s h = tt
all-rows f (suc n) s h = (h s, all-rows f n (suc s) h)

pub table_even : (ss : List ℤ) (rank m : ℕ) → rank ≤ 64 → (table : List (List ℕ)) → table ≡ table_of ss rank m → Even table
table_even ss rank m h table is =
    let row : ℕ → List ℕ = λ k. padded 64 0 (ranks (stride_row ss rank k)) in
    record {
      rows = λ k l. subst (λ (t : List (List ℕ)). RankRow (get_or t k [])) (sym (is ∙ ap (padded 8 zero_row) (table_rows ss rank m)))
          (padded-rows 8 (map row (run 0 m)) (all-rows row m 0 (λ j. rank-row (stride_row ss rank j) (let e = length-take rank (drop (j * rank) ss) in omega (arith, e, h)))) k l);
    }

-- a row is 0 behind the rank
pub row_blank : (ss : List ℤ) (rank m : ℕ) → length ss ≡ rank * m → m ≤ 8 → (table : List (List ℕ)) → table ≡ table_of ss rank m → (k : ℕ) → k < m
    → blank (drop rank (get_or table k [])) ≡ true
row_blank ss rank m e few table is k h =
    let row : ℕ → List ℕ = λ k. padded 64 0 (ranks (stride_row ss rank k)) in
    let at : get_or table k [] ≡ row k =
    ap (λ (t : List (List ℕ)). get_or t k []) (is ∙ ap (padded 8 zero_row) (table_rows ss rank m)) ∙ fill_at 8 zero_row [] row m k h few in
    let long : length (ranks (stride_row ss rank k)) ≡ rank =
    ap length (ranks_places (stride_row ss rank k))
    ∙ length-rows (λ i. rank_of (stride_row ss rank k) (nat_abs (get_or (stride_row ss rank k) i (pos 0)))) 0 (length (stride_row ss rank k))
    ∙ length_strides ss rank m k e h in
    ap (λ (r : List ℕ). blank (drop rank r)) at ∙ blank_behind blank-ℕ 64 rank (ranks (stride_row ss rank k)) long

-- ---- laid one behind the other

-- rows one behind the other: the next one is behind those that stand
pub rows_more : {A : Type 0} (f : ℕ → List A) (m : ℕ) → over (run 0 (m + 1)) f ≡ over (run 0 m) f ++ f m
rows_more f m = ap (λ (l : List ℕ). over l f) (run-append m 1 0) ∙ over_last (run 0 m) (0 + m) f ∙ ap (λ (i : ℕ). over (run 0 m) f ++ f i) (let e : 0 + m ≡ m = omega arith in e)

pub over_agree : {A : Type 0} (f g : ℕ → List A) (n s : ℕ) → ((j : ℕ) → s ≤ j → j < s + n → f j ≡ g j) → over (run s n) f ≡ over (run s n) g
over_agree f g zero s h = refl
over_agree f g (suc n) s h = ap₂ ◌++◌ (h s (omega arith) (omega arith)) (over_agree f g n (suc s) (λ j a b. h j (omega arith) (omega arith)))

pub rows-laid : (ss : List ℤ) (rank m : ℕ) → m ≤ 8 → (table : List (List ℕ)) → table ≡ table_of ss rank m → rows_of table m ≡ over (rank_table ss rank m) (padded 64 0)
unfolding rank_table
rows-laid ss rank m few table is =
    let row : ℕ → List ℕ = λ k. padded 64 0 (ranks (stride_row ss rank k)) in
    over_agree (λ k. get_or table k []) row m 0
    (λ j a b. ap (λ (t : List (List ℕ)). get_or t j []) (is ∙ ap (padded 8 zero_row) (table_rows ss rank m)) ∙ fill_at 8 zero_row [] row m j (omega arith) few)
    ∙ sym (over-map (λ k. ranks (stride_row ss rank k)) (run 0 m) (padded 64 0))

-- ---- with a row more or less

length_table : (ss : List ℤ) (rank m : ℕ) → length (map (padded 64 0) (rank_table ss rank m)) ≡ m
length_table ss rank m = ap length (table_rows ss rank m) ∙ length-rows (λ k. padded 64 0 (ranks (stride_row ss rank k))) 0 m

module _ (ss : List ℤ) (rank m : ℕ) (few : m ≤ 8) (table : List (List ℕ)) (is : table ≡ table_of ss rank m) where
  front_is : take m table ≡ map (padded 64 0) (rank_table ss rank m)
  front_is = ap (take m) is ∙ take_counted zero_row 8 m (map (padded 64 0) (rank_table ss rank m)) (length_table ss rank m) few

  pub table_front : table ≡ padded 8 zero_row (take m table)
  table_front = is ∙ ap (padded 8 zero_row) (sym front_is)

  pub table_more : (ts : List ℤ) → length ss ≡ rank * m → length ts ≡ rank → (new : List (List ℕ))
      → new ≡ padded 8 zero_row (take m table ++ (padded 64 0 (ranks ts) ∷ [])) → new ≡ table_of (ss ++ ts) rank (m + 1)
  table_more ts e l new q =
      q ∙ ap (padded 8 zero_row)
      (ap (λ (r : List (List ℕ)). r ++ (padded 64 0 (ranks ts) ∷ [])) front_is
      ∙ sym (ap (map (padded 64 0)) (table_joined ss rank m e ts l) ∙ map-append (padded 64 0) (rank_table ss rank m) (ranks ts ∷ [])))

  pub table_less : (k : ℕ) → length ss ≡ rank * m → k < m → (new : List (List ℕ))
      → new ≡ padded 8 zero_row (map (λ j. get_or table (old_place k j) []) (run 0 (m - 1))) → new ≡ table_of (strides_without rank m k ss) rank (m - 1)
  table_less k e h new q =
      let row : ℕ → List ℕ = λ j. padded 64 0 (ranks (stride_row ss rank j)) in
      let at : (j : ℕ) → j < m → get_or table j [] ≡ row j =
      λ j l. ap (λ (t : List (List ℕ)). get_or t j []) (is ∙ ap (padded 8 zero_row) (table_rows ss rank m)) ∙ fill_at 8 zero_row [] row m j l few in
      q ∙ ap (padded 8 zero_row)
      (rows_agree (λ j. get_or table (old_place k j) []) (λ j. padded 64 0 (ranks (stride_row (strides_without rank m k ss) rank j))) (m - 1) 0
      (λ j a b. let w : j < m - 1 = omega arith in at (old_place k j) (old-there m k j h w) ∙ ap (λ (r : List ℤ). padded 64 0 (ranks r)) (sym (row_moves ss rank m k e h j w)))
      ∙ sym (table_rows (strides_without rank m k ss) rank (m - 1)))

-- ---- the table of the layout that stands in a session's arrays

module _ (rank operands : ℕ) (axes : rank ≤ 64) (few : operands ≤ 8) (S : List ℤ) (s : length S ≡ 512) where
  abbrev ss : List ℤ
  ss = take (rank * operands) S

  pub own_strides : length ss ≡ rank * operands
  own_strides = length-take-le (rank * operands) S (let f = few_strides rank operands axes few in omega (arith, s, f))

  pub own_fits : Fitting ss rank operands
  own_fits = record { rank-few = axes; operands_few = few; strides_all = own_strides }

  pub own_tabled : (E : List ℕ) → length E ≡ 64 → (table : List (List ℕ)) → table ≡ table_of ss rank operands → Tabled (take rank E) ss table operands
  own_tabled E e table is =
      let l : length (take rank E) ≡ rank = length-take-le rank E (omega (arith, e, axes)) in
      record {
        fits = subst (λ (r : ℕ). Fitting ss r operands) (sym l) own_fits;
        ranks = is ∙ ap (λ (r : ℕ). table_of ss r operands) (sym l);
      }

-- of a layout whose lists stand alone
pub exact_ranks : (mc : Machine) (es sizes : List ℕ) (ss : List ℤ) (u : Purpose) (table : List (List ℕ)) → Tabled es ss table (length sizes)
    → ranks_in table (length sizes) ≡ ranks_of (given mc es sizes ss u)
unfolding ranks_of
exact_ranks mc es sizes ss u table r = ap (padded 512 0) (rows-laid ss (length es) (length sizes) r.fits.operands_few table r.ranks)
