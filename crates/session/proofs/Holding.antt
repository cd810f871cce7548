-- Row 10's test, part by part: what each part decides, and that all of them decide whether the session is right. Assumes nothing.
use mathlib.Core.Path.{◌≡◌, refl, sym, ap, ap₂, ◌∙◌, subst}
use mathlib.Core.Bool.{Bool, true, false, ◌&&◌, not, cond, false≢true}
use mathlib.Core.List.{List, [], ◌∷◌}
use mathlib.Core.Logic.{⊎_elim}
use Rattle.std.specs.Prelude.{Option, None, Some, Result, Ok, Err, is_ok}
use Prim.Native.Nat.{ℕ, ◌+◌, ◌-◌, ◌*◌, ◌≤◌, ◌<◌}
use native.Mathlib.Omega.{arith}
use lib.Dec.{ltb, leb, eqb}
use lib.IntN.{ℤ, pos}
use lib.ListN.{length, get_or, take, drop, length-take, length-drop}
use lib.Seq.{length-take-le, take_all, take-add}
use borrow.Author.Tests.{eqb-true, eq-eqb, ltb-true}
use native.Mathlib.Nat.{zero-mul}
use Rattle.layout.specs.Rows.{row_at}
use Rattle.strided.specs.Base.{padded, some_of}
use Rattle.strided.specs.Layout.{total, lead, has_zero, reach, max_i, row, extents as extents_of}
use Rattle.strided.specs.Memory.{purpose_of}
use Rattle.strided.specs.Step.{blank, blank_z}
use Rattle.strided.specs.Fuse.{plan_axes}
use Rattle.strided.specs.Weights.{weights}
use Rattle.strided.specs.Costs.{costs}
use Rattle.strided.specs.Plan.{plan_from, stride_table, cut_blocks}
use Rattle.laws.specs.Fuse.Maps.{plan_short}
use Rattle.laws.specs.Plan.Places.{blocks_length}
use Rattle.kernel.proofs.Plans.{plannable}
use Rattle.strided.specs.Refusals.{Row, refused_by, answered, planning_refused, row1, row2, row6}
use Rattle.strided.specs.declared.Purpose.{Purpose}
use Rattle.strided.specs.declared.Plan.{Plan}
use Rattle.strided.specs.declared.Refusal.{Refusal}
use Rattle.strided.specs.declared.Refusal.TheVariants.{State}
use Rattle.laws.specs.Base.Arrays.{blank-ℕ, blank-ℤ, blank_behind, padded-take, length-padded, take_counted}
use Rattle.laws.specs.Base.Rows.{length_over}
use Rattle.laws.specs.Base.Tests.{and_both, or_cases}
use Rattle.laws.specs.Fuse.Arrays.{pick_rows}
use Rattle.session.specs.declared.Numbers.{Numbers}
use Rattle.session.specs.declared.Session.{Session}
use Rattle.layout.specs.declared.slices.Layout.{Layout}
use Rattle.layout.specs.Checked.{Checked}
use Rattle.session.specs.Session.{Given, given_of, ranks_of, weights_of, costs_of, plan_of, kind_of, fresh_of, same_nats, same_ints, Right, holds, row10}
use Rattle.session.specs.Same.{Decides, same_nats_lem, nats_same, same_ints_lem, ints_same, right-holds, decides_holds}
use Rattle.session.specs.Afresh.{taken_of, allowed_of, few_strides}
use Rattle.session.specs.Made.{Even, rows_of, ranks_in, TableOf, AxesIn, StaysIn, AxesAt, Cuttable, BlocksAt, blocks_in, KeptIn, Keeps, LayoutRight, with_plan, given_in, numbers_of, LaidRight, Tables, AxesRight, BlocksRight, KeepsRight}
use Rattle.session.specs.Tabled.{Tabled}
use Rattle.session.proofs.Comparing.{same_append}
use Rattle.session.proofs.Tabling.{table_even, row_blank, own_strides, rows_more, own_tabled, exact_ranks}

-- ---- tests and claims

pub decides_eqb : (a b : ℕ) → Decides (eqb a b) (a ≡ b)
decides_eqb a b = record { yes = eqb-true a b; no = λ h e. absurd (false≢true (sym h ∙ eq-eqb a b e)) }

pub decides_nats : (xs ys : List ℕ) → Decides (same_nats xs ys) (xs ≡ ys)
decides_nats xs ys = record { yes = same_nats_lem xs ys; no = λ h e. absurd (false≢true (sym h ∙ nats_same xs ys e)) }

pub decides_ints : (xs ys : List ℤ) → Decides (same_ints xs ys) (xs ≡ ys)
decides_ints xs ys = record { yes = same_ints_lem xs ys; no = λ h e. absurd (false≢true (sym h ∙ ints_same xs ys e)) }

-- both
pub decides_both : (a b : Bool) {P Q : Type 0} → Decides a P → Decides b Q → Decides (a && b) (P × Q)
decides_both a b d e =
    record {
      yes = λ h. let s = and_both a b h in (d.yes s.0, e.yes s.1);
      no = λ h q. go a b h d e q;
    }
  where
    go : (a b : Bool) {P Q : Type 0} → (a && b) ≡ false → Decides a P → Decides b Q → P × Q → ⊥
    go true b h d e q = e.no h q.1
    go false b h d e q = d.no refl q.0

-- a claim in other words
pub decides_as : {b : Bool} {P Q : Type 0} → Decides b P → (P → Q) → (Q → P) → Decides b Q
decides_as d f g = record { yes = λ h. f (d.yes h); no = λ h q. d.no h (g q) }

pub decides_not : {P : Type 0} → (P → ⊥) → Decides false P
decides_not f = record { yes = λ h. absurd (false≢true h); no = λ h. f }

pub decides_yes : {P : Type 0} → P → Decides true P
decides_yes p = record { yes = λ h. p; no = λ h. absurd (false≢true (sym h)) }

-- the test is another's
pub decides_is : {a b : Bool} {P : Type 0} → a ≡ b → Decides b P → Decides a P
decides_is e d = record { yes = λ h. d.yes (sym e ∙ h); no = λ h. d.no (sym e ∙ h) }

-- a claim on the session that is lent, made on its fields
pub decides_for : {b : Bool} (P : Session → Type 0) {s t : Session} → s ≡ t → Decides b (P s) → Decides b (P t)
decides_for {b} P e d = subst (λ x. Decides b (P x)) e d

-- a check hands out its layout exactly if nothing refuses it
pub decides_checked : (es sizes : List ℕ) (ss : List ℤ) {o : Option Refusal} (a : Result Layout Refusal) {b : Bool} → Checked o es sizes ss a → b ≡ is_ok a → Decides b (o ≡ None)
decides_checked es sizes ss (Ok l) c d = decides_is d (decides_yes c.served)
decides_checked es sizes ss (Err r) c d = decides_is d (decides_not (λ h. let z : ◌≡◌ {A = Option Refusal} (Some r) None = sym c ∙ h in cc))

-- a claim on a layout where it is laid is one on the session's
pub laid_as : (P : Numbers → List ℕ → List ℕ → List ℤ → Type 0) {n n' : Numbers} {E E' Z Z' : List ℕ} {S S' : List ℤ} → n ≡ n' → E ≡ E' → Z ≡ Z' → S ≡ S'
    → P n E Z S → P n' E' Z' S'
laid_as P {n} {n'} {E} {E'} {Z} {Z'} {S} {S'} a b c d p = subst (λ x. P x E' Z' S') a (subst (λ x. P n x Z' S') b (subst (λ x. P n E x S') c (subst (λ x. P n E Z x) d p)))

-- ---- the purpose

abbrev told_by : ℕ → ℕ → Purpose → Bool
told_by p c u = eqb (kind_of u) p && eqb (lead u) c

-- ---- places behind the counts

-- a slice from place n on
pub rest_of : {A : Type 0} (m n : ℕ) (l : List A) → length l ≡ m → take (m - n) (drop n l) ≡ drop n l
rest_of m n l e = take_all (m - n) (drop n l) (let d = length-drop n l in omega (arith, d, e))

pub rest_is : {A : Type 0} (n : ℕ) (l : List A) → take (length l - n) (drop n l) ≡ drop n l
rest_is n l = rest_of (length l) n l refl

decides_blank : (n r : ℕ) (l : List ℕ) → length l ≡ n → r ≤ n → Decides (blank (drop r l)) (l ≡ padded n 0 (take r l))
decides_blank n r l e h =
    record {
      yes = λ b. sym (padded-take blank-ℕ n r l e b);
      no = λ b q. absurd (false≢true (sym b ∙ ap (λ (x : List ℕ). blank (drop r x)) q ∙ blank_behind blank-ℕ n r (take r l) (length-take-le r l (omega (arith, e)))));
    }

decides_blank_z : (n r : ℕ) (l : List ℤ) → length l ≡ n → r ≤ n → Decides (blank_z (drop r l)) (l ≡ padded n (pos 0) (take r l))
decides_blank_z n r l e h =
    record {
      yes = λ b. sym (padded-take blank-ℤ n r l e b);
      no = λ b q. absurd (false≢true (sym b ∙ ap (λ (x : List ℤ). blank_z (drop r x)) q ∙ blank_behind blank-ℤ n r (take r l) (length-take-le r l (omega (arith, e)))));
    }

-- ---- the layout

module _ (n : Numbers) (E Z : List ℕ) (S : List ℤ) (e : length E ≡ 64) (z : length Z ≡ 8) (s : length S ≡ 512) where
  pub layout_far : (row1 n.rank).applies ≡ true → LayoutRight n E Z S → ⊥
  layout_far h r = let a = ltb-true 64 n.rank h in let b = r.axes in omega (arith, a, b)

  operands_there : LayoutRight n E Z S → 1 ≤ n.operands
  operands_there r =
      let a = (taken_of (given_in n E Z S) r.accepted).one in
      let l = length-take n.operands Z in
      omega (arith, a, l)

  pub layout_many : (row2 n.operands).applies ≡ true → LayoutRight n E Z S → ⊥
  layout_many h r = ⊎_elim
      (λ (q : eqb n.operands 0 ≡ true). let o = operands_there r in let w = eqb-true n.operands 0 q in absurd (omega (arith, o, w)))
      (λ (q : ltb 8 n.operands ≡ true). let o = r.few in let w = ltb-true 8 n.operands q in absurd (omega (arith, o, w)))
      (or_cases (eqb n.operands 0) (ltb 8 n.operands) h)

  -- the three tests of a layout whose counts are within the limits
  module _ (axes : n.rank ≤ 64) (few : n.operands ≤ 8) {told neat plain : Bool} {u : Purpose}
      (a : told ≡ told_by n.purpose n.chosen (purpose_of n.purpose n.chosen))
      (b : neat ≡ (blank (drop n.rank E) && (blank (drop n.operands Z) && blank_z (drop (n.rank * n.operands) S))))
      (p : u ≡ purpose_of n.purpose n.chosen)
      (d : Decides plain (planning_refused n.machine (take n.rank E) (take n.operands Z) (take (n.rank * n.operands) S) u ≡ None)) where
    pub layout_decides : Decides (told && (neat && plain)) (LayoutRight n E Z S)
    layout_decides =
        let purposes = decides_is a (decides_both (eqb (kind_of (purpose_of n.purpose n.chosen)) n.purpose) (eqb (lead (purpose_of n.purpose n.chosen)) n.chosen) (decides_eqb _ _) (decides_eqb _ _)) in
        let places = decides_is b (decides_both (blank (drop n.rank E)) _ (decides_blank 64 n.rank E e axes)
        (decides_both (blank (drop n.operands Z)) (blank_z (drop (n.rank * n.operands) S)) (decides_blank 8 n.operands Z z few) (decides_blank_z 512 (n.rank * n.operands) S s (few_strides _ _ axes few)))) in
        let planned = subst (λ (v : Purpose). Decides plain (planning_refused n.machine (take n.rank E) (take n.operands Z) (take (n.rank * n.operands) S) v ≡ None)) p d in
        decides_as (decides_both told (neat && plain) purposes (decides_both neat plain places planned))
        (λ q. record { axes = axes; few = few; kind = q.0.0; chosen = q.0.1; extents = q.1.0.0; sizes = q.1.0.1.0; strides = q.1.0.1.1; accepted = q.1.1 })
        (λ r. ((r.kind, r.chosen), ((r.extents, (r.sizes, r.strides)), r.accepted)))

-- ---- the ranks

module _ (table : List (List ℕ)) (R : List ℕ) (even : Even table) (long : length R ≡ 512) where
  rows_long : (k : ℕ) → k ≤ 8 → length (rows_of table k) ≡ k * 64
  rows_long k h = length_over 64 (λ j. get_or table j []) k 0 (λ j a b. (even.rows j (omega arith)).long)

  -- the rows so far are the same
  pub row_next : (k : ℕ) → k < 8 → (alike row : Bool) → alike ≡ same_nats (take (k * 64) R) (rows_of table k) → row ≡ same_nats (take (k * 64 + 64 - k * 64) (drop (k * 64) R)) (get_or table k [])
      → (alike && row) ≡ same_nats (take ((k + 1) * 64) R) (rows_of table (k + 1))
  row_next k h alike row p q =
      let w : k * 64 + 64 - k * 64 ≡ 64 = omega arith in
      let m : (k + 1) * 64 ≡ k * 64 + 64 = omega arith in
      let front : length (take (k * 64) R) ≡ k * 64 = length-take-le (k * 64) R (omega (arith, long, h)) in
      sym (ap₂ same_nats (ap (λ (n : ℕ). take n R) m ∙ take-add (k * 64) 64 R) (rows_more (λ j. get_or table j []) k)
      ∙ same_append 0 eqb same_nats refl (λ x y xs ys. refl) (take (k * 64) R) (take 64 (drop (k * 64) R)) (rows_of table k) (get_or table k []) (front ∙ sym (rows_long k (omega (arith, h))))
      ∙ ap₂ (λ (x y : Bool). x && y) (sym p) (sym (q ∙ ap (λ (n : ℕ). same_nats (take n (drop (k * 64) R)) (get_or table k [])) w)))

  -- and 0 behind them
  pub ranks_decide : (m : ℕ) → m ≤ 8 → {alike rest : Bool} → alike ≡ same_nats (take (m * 64) R) (rows_of table m) → rest ≡ blank (drop (m * 64) R)
      → Decides (alike && rest) (R ≡ ranks_in table m)
  ranks_decide m few {alike} {rest} p q =
      decides_as
      (decides_both alike rest (decides_is p (decides_nats (take (m * 64) R) (rows_of table m))) (decides_is q (decides_blank 512 (m * 64) R long (omega (arith, few)))))
      (λ e. e.1 ∙ ap (padded 512 0) e.0)
      (λ e.
      let front : take (m * 64) R ≡ rows_of table m = ap (take (m * 64)) e ∙ take_counted 0 512 (m * 64) (rows_of table m) (rows_long m few) (omega (arith, few)) in
      (front, e ∙ ap (padded 512 0) (sym front)))

-- ---- the kept parts

-- axes: the fresh ones are compared with those that are there, where the weights are right
module _ (es : List ℕ) (m : ℕ) (ss : List ℤ) (u : Purpose) {rank : ℕ} {E A : List ℕ} (fresh : StaysIn es m ss u rank E A)
    (po o rank' : ℕ) (W' E' : List ℕ) (S' : List ℤ) (weighed : W' ≡ padded 64 0 (weights es m ss (lead u)))
    {e s : Bool} (ie : e ≡ same_nats E E') (is : s ≡ same_ints (padded 512 (pos 0) (pick_rows ss (length es) (take rank A) m)) S') where
  pub axes_decides : Decides ((eqb po o && eqb rank rank') && (e && s)) ((po ≡ o) × AxesIn es m ss u rank' W' E' S')
  axes_decides =
      decides_as
      (decides_both (eqb po o && eqb rank rank') (e && s)
      (decides_both (eqb po o) (eqb rank rank') (decides_eqb po o) (decides_eqb rank rank'))
      (decides_both e s (decides_is ie (decides_nats E E')) (decides_is is (decides_ints (padded 512 (pos 0) (pick_rows ss (length es) (take rank A) m)) S'))))
      (λ q. (
        q.0.0,
        record {
          weights = weighed;
          count = sym q.0.1 ∙ fresh.count;
          extents = sym q.1.0 ∙ fresh.extents;
          strides = sym q.1.1 ∙ fresh.strides;
        },
      ))
      (λ q. let a = q.1 in (
        (q.0, fresh.count ∙ sym a.count),
        (fresh.extents ∙ sym a.extents, fresh.strides ∙ sym a.strides),
      ))

-- they are the axes of another layout that is the same
pub stays_as : {es es' : List ℕ} {m m' : ℕ} {ss ss' : List ℤ} {u u' : Purpose} {rank : ℕ} {E A : List ℕ} → es ≡ es' → m ≡ m' → ss ≡ ss' → u ≡ u'
    → StaysIn es m ss u rank E A → StaysIn es' m' ss' u' rank E A
stays_as {es} {es'} {m} {m'} {ss} {ss'} {u} {u'} {rank} {E} {A} a b c d p =
    subst (λ x. StaysIn x m' ss' u' rank E A) a (subst (λ x. StaysIn es x ss' u' rank E A) b (subst (λ x. StaysIn es m x u' rank E A) c (subst (λ x. StaysIn es m ss x rank E A) d p)))

-- blocks have as many places as the extents
pub blocks_long : (n : Numbers) (E Z PE : List ℕ) (PS : List ℤ) → length (blocks_in n E Z PE PS) ≡ length PE
blocks_long n E Z PE PS = go (leb (total (take n.rank E)) 1024)
  where
    go : (t : Bool) → length (cond t PE (cut_blocks n.machine (take n.operands Z) PE PS n.plan_rank (purpose_of n.purpose n.chosen))) ≡ length PE
    go true = refl
    go false = blocks_length n.machine (take n.operands Z) PE PS n.plan_rank (purpose_of n.purpose n.chosen)

-- the arrays of a layout that is right
module _ (n : Numbers) (E Z : List ℕ) (S : List ℤ) (l : LayoutRight n E Z S) where
  pub extents_long : length E ≡ 64
  extents_long = ap length l.extents ∙ length-padded 0 64 (take n.rank E)

  pub sizes_long : length Z ≡ 8
  sizes_long = ap length l.sizes ∙ length-padded 0 8 (take n.operands Z)

  pub strides_long : length S ≡ 512
  strides_long = ap length l.strides ∙ length-padded (pos 0) 512 (take (n.rank * n.operands) S)

  pub g_operands : length (take n.operands Z) ≡ n.operands
  g_operands = length-take-le n.operands Z (let a = l.few in let e = sizes_long in omega (arith, a, e))

  abbrev lg : Given
  lg = given_in n E Z S

  -- by the number of its operands, or by the length of its sizes
  axes_as : {rank : ℕ} {W PE : List ℕ} {PS : List ℤ} → AxesAt n E S rank W PE PS → AxesIn lg.extents (length lg.sizes) lg.strides lg.purpose rank W PE PS
  axes_as {rank} {W} {PE} {PS} a = subst (λ (m : ℕ). AxesIn lg.extents m lg.strides lg.purpose rank W PE PS) (sym g_operands) a

  -- what cutting asks for
  pub cuttable : (r : Numbers) {W PE : List ℕ} {PS : List ℤ} → r ≡ with_plan n r.plan_rank → AxesAt n E S r.plan_rank W PE PS → Cuttable r E Z PE PS
  cuttable r {W} {PE} {PS} q a = subst (λ (x : Numbers). Cuttable x E Z PE PS) (sym q) (
      let acc = taken_of lg l.accepted in
      let x = axes_as a in
      let one = acc.one in
      record {
        machine = allowed_of lg l.accepted;
        axes = l.axes;
        one = let g = g_operands in omega (arith, one, g);
        few = l.few;
        plan = let c = x.count in let p = plan_short lg.extents (length lg.sizes) lg.strides lg.purpose in let f = acc.axes in omega (arith, c, p, f);
        extents = extents_long;
        sizes = sizes_long;
        places = ap length x.extents ∙ length-padded 0 64 (extents_of (plan_axes lg.extents (length lg.sizes) lg.strides lg.purpose));
        cut = plannable lg.extents lg.sizes lg.strides lg.purpose acc r.plan_rank PE PS x.count x.extents x.strides;
      })

  -- all of them are what the layout gives
  pub parts_kept : (r : Numbers) {W PE C B : List ℕ} {PS : List ℤ} → r ≡ with_plan n r.plan_rank → AxesAt n E S r.plan_rank W PE PS → BlocksAt r E Z PE PS C B
      → KeptIn lg r.plan_rank W C PE B PS
  unfolding weights_of costs_of plan_of plan_from
  parts_kept r {W} {PE} {C} {B} {PS} q a b =
      let x = axes_as a in
      let k : BlocksAt (with_plan n r.plan_rank) E Z PE PS C B = subst (λ (y : Numbers). BlocksAt y E Z PE PS C B) q b in
      let axs = plan_axes lg.extents (length lg.sizes) lg.strides lg.purpose in
      let er = x.count in let ee = x.extents in let es = x.strides in
      let eb : B ≡ cond (leb (total lg.extents) 1024) (padded 64 0 (extents_of axs))
      (cut_blocks n.machine lg.sizes (padded 64 0 (extents_of axs)) (stride_table axs (length lg.sizes)) (length axs) lg.purpose) =
      k.blocks ∙ (λ i. cond (leb (total lg.extents) 1024) (ee i) (cut_blocks n.machine lg.sizes (ee i) (es i) (er i) lg.purpose)) in
      record {
        weights = x.weights;
        costs = k.costs ∙ (λ i. padded 64 0 (costs (es i) (sym g_operands i) (er i)));
        plan = λ i. record { rank = er i; operands = length lg.sizes; extents = ee i; blocks = eb i; strides = es i };
      }

  -- and the other way
  module _ {W PE C B : List ℕ} {PS : List ℤ} (k : Keeps lg n W C PE B PS) where
    pub keeps_axes : (n.plan_operands ≡ n.operands) × AxesAt n E S n.plan_rank W PE PS
    unfolding weights_of plan_of plan_from
    keeps_axes =
        let p = k.parts.plan in (
          k.operands ∙ g_operands,
          subst (λ (m : ℕ). AxesIn lg.extents m lg.strides lg.purpose n.plan_rank W PE PS) g_operands
              (record {
                weights = k.parts.weights;
                count = ap (λ (y : Plan). y.rank) p;
                extents = ap (λ (y : Plan). y.extents) p;
                strides = ap (λ (y : Plan). y.strides) p;
              }),
        )

    pub keeps_blocks : BlocksAt n E Z PE PS C B
    unfolding costs_of plan_of plan_from
    keeps_blocks =
        let p = k.parts.plan in
        let x = axes_as keeps_axes.1 in
        let er = x.count in let ee = x.extents in let es = x.strides in
        record {
          costs = k.parts.costs ∙ (λ i. padded 64 0 (costs (sym es i) (g_operands i) (sym er i)));
          blocks = ap (λ (y : Plan). y.blocks) p ∙ (λ i. cond (leb (total lg.extents) 1024) (sym ee i) (cut_blocks n.machine lg.sizes (sym ee i) (sym es i) (sym er i) lg.purpose));
        }

  pub own_ranks : (table : List (List ℕ)) → TableOf (take (n.rank * n.operands) S) n.rank n.operands table → ranks_in table n.operands ≡ ranks_of lg
  own_ranks table t =
      ap (ranks_in table) (sym g_operands)
      ∙ exact_ranks n.machine lg.extents lg.sizes lg.strides lg.purpose table
      (subst (λ (m : ℕ). Tabled lg.extents lg.strides table m) (sym g_operands)
      (own_tabled n.rank n.operands l.axes l.few S strides_long E extents_long table t.is))

-- ---- the session

-- the table of the ranks of a layout that is right has its rows
pub even_of : (s : Session) → LaidRight s → {table : List (List ℕ)} → Tables s table → Even table
even_of s l {table} t = table_even _ s.rank s.operands l.axes table t.is

-- and each is 0 behind the rank
pub row_ends : (s : Session) → LaidRight s → {table : List (List ℕ)} → Tables s table → (k : ℕ) → k < s.operands → blank (drop s.rank (get_or table k [])) ≡ true
row_ends s l {table} t k h =
    row_blank (take (s.rank * s.operands) s.strides) s.rank s.operands
    (own_strides s.rank s.operands l.axes l.few s.strides (strides_long (numbers_of s) s.extents s.sizes s.strides l)) l.few table t.is k h

module _ (s : Session) where
  abbrev g : Given
  g = given_of s

  pub right_layout : Right s → LaidRight s
  unfolding fresh_of
  right_layout r =
      let f = r.afresh in
      let a = taken_of g r.accepted in
      let axes = a.axes in
      let few = a.few in
      let er = ap (λ (t : Session). t.rank) f in
      let eo = ap (λ (t : Session). t.operands) f in
      record {
        axes = omega (arith, axes, er);
        few = omega (arith, few, eo);
        kind = sym (ap (λ (t : Session). t.purpose) f);
        chosen = sym (ap (λ (t : Session). t.chosen) f);
        extents = ap (λ (t : Session). t.extents) f;
        sizes = ap (λ (t : Session). t.sizes) f;
        strides = ap (λ (t : Session). t.strides) f;
        accepted = r.accepted;
      }

  pub right-ranks : Right s → s.ranks ≡ ranks_of g
  unfolding fresh_of
  right-ranks r = ap (λ (t : Session). t.ranks) r.afresh

  pub right_keeps : Right s → KeepsRight s
  unfolding fresh_of plan_of plan_from
  right_keeps r =
      let p = ap (λ (t : Session). t.plan) r.afresh in
      let m : s.plan.operands ≡ length g.sizes = ap (λ (x : Plan). x.operands) p in
      record {
        parts = record {
          weights = ap (λ (t : Session). t.weights) r.afresh;
          costs = ap (λ (t : Session). t.costs) r.afresh;
          plan = (λ i. record { rank = s.plan.rank; operands = sym m i; extents = s.plan.extents; blocks = s.plan.blocks; strides = s.plan.strides }) ∙ p;
        };
        operands = m;
      }

  -- the plan has the layout's operands
  plan_counted : s.plan.operands ≡ s.operands → numbers_of s ≡ with_plan (numbers_of s) s.plan.rank
  plan_counted e = λ i. record { purpose = s.purpose; chosen = s.chosen; machine = s.machine; rank = s.rank; operands = s.operands; plan_rank = s.plan.rank; plan_operands = e i }

  module _ (l : LaidRight s) where
    pub all_right : s.ranks ≡ ranks_of g → KeepsRight s → Right s
    unfolding fresh_of
    all_right r k =
        let er : s.rank ≡ length g.extents = sym (length-take-le s.rank s.extents (let q = extents_long (numbers_of s) s.extents s.sizes s.strides l in let axes = l.axes in omega (arith, q, axes))) in
        let eo = sym (g_operands (numbers_of s) s.extents s.sizes s.strides l) in
        let m = k.operands in
        let ek = l.kind in let ec = l.chosen in let ee = l.extents in let ez = l.sizes in let es = l.strides in
        let ew = k.parts.weights in let ecc = k.parts.costs in
        let ep : s.plan ≡ plan_of g =
        (λ i. record { rank = s.plan.rank; operands = m i; extents = s.plan.extents; blocks = s.plan.blocks; strides = s.plan.strides }) ∙ k.parts.plan in
        record {
          accepted = l.accepted;
          afresh =
              λ i. record {
                purpose = sym ek i;
                chosen = sym ec i;
                machine = s.machine;
                rank = er i;
                operands = eo i;
                extents = ee i;
                sizes = ez i;
                strides = es i;
                ranks = r i;
                weights = ew i;
                costs = ecc i;
                plan = ep i;
              };
        }

    -- the plan's axes can be cut
    pub cuttable_of : AxesRight s → Cuttable (numbers_of s) s.extents s.sizes s.plan.extents s.plan.strides
    cuttable_of a = cuttable (numbers_of s) s.extents s.sizes s.strides l (numbers_of s) (plan_counted a.0) a.1

    pub keeps_of : AxesRight s → BlocksRight s → KeepsRight s
    keeps_of a b =
        record {
          parts = parts_kept (numbers_of s) s.extents s.sizes s.strides l (numbers_of s) (plan_counted a.0) a.1 b;
          operands = a.0 ∙ sym (g_operands (numbers_of s) s.extents s.sizes s.strides l);
        }

-- row 6 of one operand, whose strides stand alone
pub new_far : (es : List ℕ) (ts : List ℤ) (rank : ℕ) → length es ≡ rank → length ts ≡ rank → (row6 es 1 (row_at es ts rank)).applies ≡ (row6 es 1 (λ k. ts)).applies
unfolding some_of
new_far es ts rank e h =
    let z : 0 * rank ≡ 0 = zero-mul rank in
    let r : row_at es ts rank 0 ≡ ts = ap (λ (n : ℕ). take (length es) (drop n ts)) z ∙ take_all (length es) ts (omega (arith, e, h)) in
    ap (λ (l : List ℤ). not (has_zero es) && cond (ltb max_i (reach es l)) true false) r

-- ---- row 10 first

module _ (s : Session) {b : Bool} (d : Decides b (Right s)) (rs : List Row) where
  pub past_10 : b ≡ true → answered (refused_by (row10 s ∷ rs)) ≡ answered (refused_by rs)
  past_10 h = let e : holds s ≡ true = right-holds s (d.yes h) in rw e

  pub at_10 : b ≡ false → answered (refused_by (row10 s ∷ rs)) ≡ Err State
  at_10 h = let e : holds s ≡ false = sym (decides_holds s _ d) ∙ h in rw e
