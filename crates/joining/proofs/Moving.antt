-- The operands of a layout in a session's arrays, with one more or one less: what the arrays hold is what the definition names. Where planning
-- accepts the layout that stands there, everything else follows. Assumes nothing.
use mathlib.Core.Path.{◌≡◌, refl, sym, ap, ap₂, ◌∙◌, subst}
use mathlib.Core.List.{List, [], ◌∷◌, ◌++◌, map}
use Rattle.std.specs.Prelude.{None}
use Prim.Native.Nat.{ℕ, zero, suc, ◌+◌, ◌-◌, ◌*◌, ◌≤◌, ◌<◌}
use native.Mathlib.Nat.{mul-suc}
use native.Mathlib.Omega.{arith}
use lib.IntN.{ℤ, pos}
use lib.ListN.{length, get_or, take, drop, set, length-append}
use lib.Seq.{length-take-le, take-take, drop-cons, get_or-take}
use Rattle.strided.specs.Base.{padded, over, run}
use Rattle.strided.specs.Layout.{lead, stride_row}
use Rattle.strided.specs.Memory.{purpose_of}
use Rattle.strided.specs.Ranks.{ranks, rank_table}
use Rattle.strided.specs.declared.Plan.{Plan}
use Rattle.laws.specs.Base.Arrays.{length-padded, take-padded, take_counted}
use Rattle.laws.specs.Base.Filling.{length-rows, fill_at}
use Rattle.laws.specs.Base.Lists.{over_last}
use Rattle.laws.specs.Base.Rows.{row_fits, length_over, row-over}
use Rattle.laws.specs.Order.Ranks.{table_rows}
use Rattle.session.specs.declared.Numbers.{Numbers}
use Rattle.session.specs.Session.{Given, refused_of, ranks_of, weights_of, costs_of, plan_of, kind_of, fresh_of, old_place, sizes_without, strides_without}
use Rattle.session.specs.Afresh.{few_strides, old-there, length_without, purpose_back, taken_of, row_new}
use Rattle.session.specs.Tables.{rows_agree, table_joined}
use Rattle.session.specs.Made.{rows_of, ranks_in, TableOf, KeptIn, LayoutRight, Standing, given_in, begun_with, session_at, with_plan}
use Rattle.joining.proofs.Laying.{row-added}
use Rattle.layout.specs.declared.slices.Layout.{Layout}
use Rattle.layout.specs.Checked.{LetThrough}
use Rattle.layout.proofs.Checks.{through_as}
use Rattle.session.proofs.Tabling.{zero_row, table_of, over_agree, rows-laid, table_even, table_more, table_less, exact_ranks}
use Rattle.session.proofs.Holding.{g_operands, strides_long}

-- ---- what stands in the arrays

-- the operands of a layout that is right
pub right-standing : (n : Numbers) (E Z : List ℕ) (S : List ℤ) → LayoutRight n E Z S → {R : List ℕ} {table : List (List ℕ)}
    → TableOf (take (n.rank * n.operands) S) n.rank n.operands table → R ≡ ranks_in table n.operands
    → Standing n.rank (take n.operands Z) (take (n.rank * n.operands) S) Z S R table
right-standing n E Z S l {R} {table} t r =
    let m = sym (g_operands n E Z S l) in
    record {
      fits =
          record {
            rank-few = l.axes;
            operands_few = let f = l.few in omega (arith, f, m);
            strides_all =
                length-take-le (n.rank * n.operands) S (let f = few_strides n.rank n.operands l.axes l.few in let e = strides_long n E Z S l in omega (arith, f, e))
                ∙ ap (λ (x : ℕ). n.rank * x) m;
          };
      sizes = l.sizes;
      strides = l.strides;
      rows = subst (λ (x : ℕ). TableOf (take (n.rank * n.operands) S) n.rank x table) m t;
      ranks = r ∙ ap (ranks_in table) m;
    }

-- how many there are, in arrays of 8 and 512
module _ (rank m : ℕ) (Z : List ℕ) (S : List ℤ) (R : List ℕ) (table : List (List ℕ)) (few : m ≤ 8)
    (st : Standing rank (take m Z) (take (rank * m) S) Z S R table) where
  pub stand_operands : length (take m Z) ≡ m
  stand_operands = length-take-le m Z (let e = ap length st.sizes ∙ length-padded 0 8 (take m Z) in omega (arith, e, few))

  pub stand_strides : length (take (rank * m) S) ≡ rank * m
  stand_strides = st.fits.strides_all ∙ ap (λ (x : ℕ). rank * x) stand_operands

  pub stand_table : table ≡ table_of (take (rank * m) S) rank m
  stand_table = st.rows.is ∙ ap (table_of (take (rank * m) S) rank) stand_operands

  pub stand_ranks : R ≡ ranks_in table m
  stand_ranks = st.ranks ∙ ap (ranks_in table) stand_operands

  pub stand_places : length Z ≡ 8
  stand_places = ap length st.sizes ∙ length-padded 0 8 (take m Z)

  pub stand_long : length S ≡ 512
  stand_long = ap length st.strides ∙ length-padded (pos 0) 512 (take (rank * m) S)

  abbrev zs : List ℕ
  zs = take m Z

  abbrev ss : List ℤ
  ss = take (rank * m) S

  -- the ranks so far
  pub front-rows : take (m * 64) R ≡ rows_of table m
  front-rows =
      let even = table_even ss rank m st.fits.rank-few table stand_table in
      let long : length (rows_of table m) ≡ m * 64 = length_over 64 (λ j. get_or table j []) m 0 (λ j a b. (even.rows j (omega arith)).long) in
      ap (take (m * 64)) stand_ranks ∙ take_counted 0 512 (m * 64) (rows_of table m) long (omega (arith, few))

  front-ranks : take (m * 64) R ≡ over (rank_table ss rank m) (padded 64 0)
  front-ranks = front-rows ∙ rows-laid ss rank m few table stand_table

  pub ranks-front : R ≡ padded 512 0 (take (m * 64) R)
  ranks-front = stand_ranks ∙ ap (padded 512 0) (rows-laid ss rank m few table stand_table ∙ sym front-ranks)

  -- one joins
  module _ (room : m < 8) (z : ℕ) (ts : List ℤ) (counted : length ts ≡ rank) {Z' : List ℕ} {S' : List ℤ} {table' : List (List ℕ)}
      (ez : Z' ≡ set Z m z) (es : S' ≡ padded 512 (pos 0) (ss ++ ts)) (et : table' ≡ padded 8 zero_row (take m table ++ (padded 64 0 (ranks ts) ∷ []))) where
    pub table_after : table' ≡ table_of (ss ++ ts) rank (m + 1)
    table_after = table_more ss rank m few table stand_table ts stand_strides counted table' et

    pub row-after : get_or table' m [] ≡ padded 64 0 (ranks ts)
    row-after =
        let row : ℕ → List ℕ = λ k. padded 64 0 (ranks (stride_row (ss ++ ts) rank k)) in
        ap (λ (t : List (List ℕ)). get_or t m []) (table_after ∙ ap (padded 8 zero_row) (table_rows (ss ++ ts) rank (m + 1)))
        ∙ fill_at 8 zero_row [] row (m + 1) m (omega arith) (omega (arith, room))
        ∙ ap (λ (r : List ℤ). padded 64 0 (ranks r)) (row_new ss ts rank m stand_strides counted)

    more : length (zs ++ (z ∷ [])) ≡ m + 1
    more = let a = length-append zs (z ∷ []) in let e = stand_operands in omega (arith, a, e)

    pub add_stands : {R' : List ℕ} → R' ≡ padded 512 0 (take (m * 64) R ++ get_or table' m []) → Standing rank (zs ++ (z ∷ [])) (ss ++ ts) Z' S' R' table'
    add_stands {R'} er =
        record {
          fits =
              record {
                rank-few = st.fits.rank-few;
                operands_few = omega (arith, more, room);
                strides_all =
                    length-append ss ts
                    ∙ (let a = stand_strides in let b = mul-suc rank m in let w : length ss + length ts ≡ rank * (m + 1) = omega (arith, a, b, counted) in w)
                    ∙ ap (λ (x : ℕ). rank * x) (sym more);
              };
          sizes = ez ∙ row-added 8 0 Z m st.sizes room z;
          strides = es;
          rows = record { is = table_after ∙ ap (table_of (ss ++ ts) rank) (sym more) };
          ranks =
              er ∙ ap (padded 512 0)
              (ap₂ ◌++◌ front-ranks row-after
              ∙ sym (over_last (rank_table ss rank m) (ranks ts) (padded 64 0))
              ∙ ap (λ (r : List (List ℕ)). over r (padded 64 0)) (sym (table_joined ss rank m stand_strides ts counted))
              ∙ sym (rows-laid (ss ++ ts) rank (m + 1) (omega (arith, room)) table' table_after))
              ∙ ap (ranks_in table') (sym more);
        }

-- a row that lies within the first n places
take_in : {A : Type 0} (a r n : ℕ) (l : List A) → a + r ≤ n → take r (drop a (take n l)) ≡ take r (drop a l)
take_in zero r n l h = take-take r n l (omega (arith, h))
take_in (suc a) r zero l h = absurd (bad h)
  where
    bad : suc a + r ≤ 0 → ⊥
    bad h = omega arith
take_in (suc a) r (suc n) [] h = refl
take_in (suc a) r (suc n) (x ∷ l) h = take_in a r n l (omega (arith, h))

-- what stands behind the strides does not count
strides_cut : (ss : List ℤ) (rank m k : ℕ) → rank * m ≤ length ss → k < m → strides_without rank m k ss ≡ strides_without rank m k (take (rank * m) ss)
strides_cut ss rank m k h l =
    over_agree (λ j. stride_row ss rank (old_place k j)) (λ j. stride_row (take (rank * m) ss) rank (old_place k j)) (m - 1) 0
    (λ j a b. sym (cut (old_place k j) (old-there m k j l (omega arith))))
  where
    cut : (i : ℕ) → i < m → stride_row (take (rank * m) ss) rank i ≡ stride_row ss rank i
    cut i q = take_in (i * rank) rank (rank * m) ss (row_fits i rank m q)

-- rows of one place each
ones : {A : Type 0} (d : A) (xs : List A) (f : ℕ → ℕ) (n s : ℕ) → ((j : ℕ) → s ≤ j → j < s + n → f j < length xs)
    → over (run s n) (λ j. take 1 (drop (f j * 1) xs)) ≡ map (λ j. get_or xs (f j) d) (run s n)
ones d xs f zero s h = refl
ones d xs f (suc n) s h =
    let e : f s * 1 ≡ f s = omega arith in
    ap₂ ◌++◌ (ap (λ (i : ℕ). take 1 (drop i xs)) e ∙ ap (take 1) (drop-cons xs (f s) d (h s (omega arith) (omega arith)))) (ones d xs f n (suc s) (λ j a b. h j (omega arith) (omega arith)))

-- one leaves
module _ (rank m : ℕ) (Z : List ℕ) (S : List ℤ) (R : List ℕ) (table : List (List ℕ)) (few : m ≤ 8)
    (st : Standing rank (take m Z) (take (rank * m) S) Z S R table) (k : ℕ) (there : k < m) where
  less : length (sizes_without k (take m Z)) ≡ m - 1
  less =
      let a = length-rows (λ (j : ℕ). get_or (take m Z) (old_place k j) 0) 0 (length (take m Z) - 1) in
      let e = stand_operands rank m Z S R table few st in
      omega (arith, a, e)

  -- the rows of the ranks that stay are those of the table that stays
  row_stays : (j : ℕ) → j < m - 1 → {table' : List (List ℕ)} → table' ≡ padded 8 zero_row (map (λ j. get_or table (old_place k j) []) (run 0 (m - 1)))
      → take 64 (drop (old_place k j * 64) R) ≡ get_or table' j []
  row_stays j h et =
      let i : ℕ = old_place k j in
      let q = old-there m k j there h in
      let even = table_even (take (rank * m) S) rank m st.fits.rank-few table (stand_table rank m Z S R table few st) in
      let e : 0 + i ≡ i = omega arith in
      let fits : i * 64 + 64 ≤ m * 64 = omega (arith, q) in
      sym (take_in (i * 64) 64 (m * 64) R fits)
      ∙ ap (λ (l : List ℕ). take 64 (drop (i * 64) l)) (front-rows rank m Z S R table few st)
      ∙ row-over 64 (λ j. get_or table j []) m 0 i (λ j a b. (even.rows j (omega arith)).long) q
      ∙ ap (λ (x : ℕ). get_or table x []) e
      ∙ sym (ap (λ (t : List (List ℕ)). get_or t j []) et ∙ fill_at 8 zero_row [] (λ j. get_or table (old_place k j) []) (m - 1) j h (omega (arith, few)))

  places_left : {Z' : List ℕ} → Z' ≡ padded (length Z) 0 (over (run 0 (m - 1)) (λ j. take 1 (drop (old_place k j * 1) Z))) → Z' ≡ padded 8 0 (sizes_without k (take m Z))
  places_left e =
      let z = stand_places rank m Z S R table few st in
      e ∙ ap₂ (λ (n : ℕ) (l : List ℕ). padded n 0 l) z
      (ones 0 Z (old_place k) (m - 1) 0 (λ j a b. let q = old-there m k j there (omega arith) in omega (arith, q, few, z))
      ∙ rows_agree (λ j. get_or Z (old_place k j) 0) (λ j. get_or (take m Z) (old_place k j) 0) (m - 1) 0 (λ j a b. sym (get_or-take m Z (old_place k j) 0 (old-there m k j there (omega arith))))
      ∙ ap (λ (n : ℕ). map (λ j. get_or (take m Z) (old_place k j) 0) (run 0 (n - 1))) (sym (stand_operands rank m Z S R table few st)))

  table_less_one : {table' : List (List ℕ)} → table' ≡ padded (length table) zero_row (over (run 0 (m - 1)) (λ j. take 1 (drop (old_place k j * 1) table)))
      → table' ≡ padded 8 zero_row (map (λ j. get_or table (old_place k j) []) (run 0 (m - 1)))
  table_less_one e =
      let t : length table ≡ 8 = ap length (stand_table rank m Z S R table few st) ∙ length-padded zero_row 8 (map (padded 64 0) (rank_table (take (rank * m) S) rank m)) in
      e ∙ ap₂ (λ (n : ℕ) (l : List (List ℕ)). padded n zero_row l) t
      (ones [] table (old_place k) (m - 1) 0 (λ j a b. let q = old-there m k j there (omega arith) in omega (arith, q, few, t)))

  -- what each of the four arrays holds when row k has been taken out of it
  pub drop_stands : {Z' : List ℕ} {S' : List ℤ} {R' : List ℕ} {table' : List (List ℕ)}
      → table' ≡ padded (length table) zero_row (over (run 0 (m - 1)) (λ j. take 1 (drop (old_place k j * 1) table)))
      → R' ≡ padded (length R) 0 (over (run 0 (m - 1)) (λ j. take 64 (drop (old_place k j * 64) R)))
      → Z' ≡ padded (length Z) 0 (over (run 0 (m - 1)) (λ j. take 1 (drop (old_place k j * 1) Z)))
      → S' ≡ padded (length S) (pos 0) (strides_without rank m k S)
      → Standing rank (sizes_without k (take m Z)) (strides_without rank m k (take (rank * m) S)) Z' S' R' table'
  drop_stands {Z'} {S'} {R'} {table'} dt dr dz ds =
      let et = table_less_one dt in
      let er : R' ≡ padded 512 0 (over (run 0 (m - 1)) (λ j. take 64 (drop (old_place k j * 64) R))) =
      dr ∙ ap (λ (n : ℕ). padded n 0 (over (run 0 (m - 1)) (λ j. take 64 (drop (old_place k j * 64) R)))) (ap length (stand_ranks rank m Z S R table few st) ∙ length-padded 0 512 (rows_of table m)) in
      let ez = places_left dz in
      let es : S' ≡ padded 512 (pos 0) (strides_without rank m k S) = ds ∙ ap (λ (n : ℕ). padded n (pos 0) (strides_without rank m k S)) (stand_long rank m Z S R table few st) in
      let ss = take (rank * m) S in
      let long = stand_strides rank m Z S R table few st in
      let after = table_less ss rank m few table (stand_table rank m Z S R table few st) k long there table' et in
      record {
        fits =
            record {
              rank-few = st.fits.rank-few;
              operands_few = omega (arith, less, few);
              strides_all = length_without ss rank m k long there ∙ ap (λ (x : ℕ). rank * x) (sym less);
            };
        sizes = ez;
        strides = es ∙ ap (padded 512 (pos 0)) (strides_cut S rank m k (let f = few_strides rank m st.fits.rank-few few in let e = stand_long rank m Z S R table few st in omega (arith, f, e)) there);
        rows = record { is = after ∙ ap (table_of (strides_without rank m k ss) rank) (sym less) };
        ranks =
            er ∙ ap (padded 512 0) (over_agree (λ j. take 64 (drop (old_place k j * 64) R)) (λ j. get_or table' j []) (m - 1) 0 (λ j a b. row_stays j (omega arith) et))
            ∙ ap (ranks_in table') (sym less);
      }

-- ---- a layout that planning accepts stands in the arrays

pub record Stands (g : Given) (n : Numbers) (E Z : List ℕ) (S : List ℤ) (R : List ℕ) (table : List (List ℕ)) : Type 0 where
  pub extents : E ≡ padded 64 0 g.extents
  pub operands : Standing (length g.extents) g.sizes g.strides Z S R table
  pub rank : n.rank ≡ length g.extents
  pub many : n.operands ≡ length g.sizes
  pub machine : n.machine ≡ g.machine
  pub kind : n.purpose ≡ kind_of g.purpose
  pub chosen : n.chosen ≡ lead g.purpose

-- as a session begins
pub stands_begun : {g : Given} {n : Numbers} {E Z : List ℕ} {S : List ℤ} {R : List ℕ} {table : List (List ℕ)} {l : Layout} → LetThrough (refused_of g) g.extents g.sizes g.strides l
    → n ≡ begun_with g.machine g.purpose (length g.extents) (length g.sizes)
    → E ≡ padded 64 0 g.extents → Standing (length l.extents.now) g.sizes l.strides.now Z S R table → Stands g n E Z S R table
stands_begun {g} {n} {E} {Z} {S} {R} {table} c q e st = record {
  extents = e;
  operands = through_as c (λ e m s. Standing (length e) g.sizes s Z S R table) st;
  rank = ap (λ (x : Numbers). x.rank) q;
  many = ap (λ (x : Numbers). x.operands) q;
  machine = ap (λ (x : Numbers). x.machine) q;
  kind = ap (λ (x : Numbers). x.purpose) q;
  chosen = ap (λ (x : Numbers). x.chosen) q;
}

module _ {g : Given} {n : Numbers} {E Z : List ℕ} {S : List ℤ} {R : List ℕ} {table : List (List ℕ)} (ok : refused_of g ≡ None) (t : Stands g n E Z S R table) where
  abbrev st : Standing (length g.extents) g.sizes g.strides Z S R table
  st = t.operands

  stands_given : given_in n E Z S ≡ g
  stands_given =
      let a = taken_of g ok in
      let ee = ap₂ take t.rank t.extents ∙ take-padded 0 64 g.extents a.axes in
      let ez = ap₂ take t.many st.sizes ∙ take-padded 0 8 g.sizes a.few in
      let es = ap₂ take (ap₂ ◌*◌ t.rank t.many) st.strides
      ∙ take_counted (pos 0) 512 (length g.extents * length g.sizes) g.strides a.strides (few_strides (length g.extents) (length g.sizes) a.axes a.few) in
      let eu = ap₂ purpose_of t.kind t.chosen ∙ purpose_back g.purpose in
      λ i. record { machine = t.machine i; extents = ee i; sizes = ez i; strides = es i; purpose = eu i }

  pub stands_right : LayoutRight n E Z S
  stands_right =
      let a = taken_of g ok in
      let axes = a.axes in let few = a.few in
      let q = sym stands_given in
      record {
        axes = omega (arith, axes, t.rank);
        few = omega (arith, few, t.many);
        kind = ap (λ (x : Given). kind_of x.purpose) stands_given ∙ sym t.kind;
        chosen = ap (λ (x : Given). lead x.purpose) stands_given ∙ sym t.chosen;
        extents = t.extents ∙ ap (λ (x : Given). padded 64 0 x.extents) q;
        sizes = st.sizes ∙ ap (λ (x : Given). padded 8 0 x.sizes) q;
        strides = st.strides ∙ ap (λ (x : Given). padded 512 (pos 0) x.strides) q;
        accepted = ap refused_of stands_given ∙ ok;
      }

  pub stands_table : TableOf (take (n.rank * n.operands) S) n.rank n.operands table
  stands_table =
      let q = ap (λ (x : Given). x.strides) (sym stands_given) in
      record { is = st.rows.is ∙ (λ i. table_of (q i) (sym t.rank i) (sym t.many i)) }

  -- and with the kept parts the session is the one afresh
  pub stands_session : (r : Numbers) (W C PE PB : List ℕ) (PS : List ℤ) → r ≡ with_plan n r.plan_rank → KeptIn (given_in n E Z S) r.plan_rank W C PE PB PS
      → session_at r E Z S R W C PE PB PS ≡ fresh_of g
  unfolding fresh_of
  stands_session r W C PE PB PS q k =
      let ez = st.sizes in let es = st.strides in
      let p = ap (λ (x : Numbers). x.purpose) q ∙ t.kind in
      let c = ap (λ (x : Numbers). x.chosen) q ∙ t.chosen in
      let mc = ap (λ (x : Numbers). x.machine) q ∙ t.machine in
      let rk = ap (λ (x : Numbers). x.rank) q ∙ t.rank in
      let op = ap (λ (x : Numbers). x.operands) q ∙ t.many in
      let po : r.plan_operands ≡ length (take n.operands Z) = ap (λ (x : Numbers). x.plan_operands) q ∙ t.many ∙ ap (λ (x : Given). length x.sizes) (sym stands_given) in
      let ra : R ≡ ranks_of g = st.ranks ∙ exact_ranks g.machine g.extents g.sizes g.strides g.purpose table (record { fits = st.fits; ranks = st.rows.is }) in
      let we = k.weights ∙ ap weights_of stands_given in
      let co = k.costs ∙ ap costs_of stands_given in
      let pl : ◌≡◌ {A = Plan} (record { rank = r.plan_rank; operands = r.plan_operands; extents = PE; blocks = PB; strides = PS }) (plan_of g) =
      (λ i. record { rank = r.plan_rank; operands = po i; extents = PE; blocks = PB; strides = PS }) ∙ k.plan ∙ ap plan_of stands_given in
      λ i. record {
        purpose = p i;
        chosen = c i;
        machine = mc i;
        rank = rk i;
        operands = op i;
        extents = t.extents i;
        sizes = ez i;
        strides = es i;
        ranks = ra i;
        weights = we i;
        costs = co i;
        plan = pl i;
      }
