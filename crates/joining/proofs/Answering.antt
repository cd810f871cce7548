-- What a call on a lent session answers and leaves, put together from what its rows and its makers told. Assumes nothing.
use mathlib.Core.Path.{◌≡◌, refl, sym, ap, ◌∙◌, subst}
use mathlib.Core.List.{List, [], ◌∷◌, ◌++◌}
use Rattle.std.specs.Prelude.{Option, None, Result, Ok, Err}
use Prim.Native.Nat.{ℕ, ◌+◌, ◌-◌, ◌*◌, ◌≤◌, ◌<◌}
use native.Mathlib.Omega.{arith}
use lib.IntN.{ℤ, pos}
use lib.ListN.{length, get_or, take, length-append}
use Rattle.strided.specs.Refusals.{refused_by, answered, served_unless}
use Rattle.strided.specs.Memory.{whether}
use Rattle.strided.specs.declared.Refusal.{Refusal}
use Rattle.strided.specs.Base.{padded, over, run}
use Rattle.strided.specs.Layout.{Axis, row}
use Rattle.strided.specs.Fuse.{plan_axes}
use Rattle.strided.specs.Plan.{stride_table}
use Rattle.laws.specs.Base.Arrays.{length-padded, take_counted}
use Rattle.laws.specs.Base.Rows.{length_over}
use Rattle.laws.specs.Base.Filling.{length-rows}
use Rattle.laws.specs.Refusals.Rows.{served_none, refused_some}
use Rattle.session.specs.declared.Numbers.{Numbers}
use Rattle.session.specs.declared.Session.{Session}
use Rattle.session.specs.Session.{Given, refused_of, fresh_of, given_of, with_operand, old_place, sizes_without, strides_without, without_operand, Right, join_rows, leave_rows}
use Rattle.session.specs.Afresh.{right-rank, right_operands, join_right, join_room, join_counted, join_near, join_accepted, leave_right, leave_there, leave_two, leave_accepted}
use Rattle.session.specs.Made.{TableOf, LayoutRight, Standing, KeptIn, given_in, with_more, with_less, with_plan, purpose_in, session_at, Lent}
use Rattle.session.proofs.Holding.{right_layout, right-ranks, right_keeps, own_ranks, keeps_axes}
use Rattle.joining.proofs.Moving.{right-standing, Stands, stands_right, stands_table, stands_session}

-- ---- a session that is lent

module _ (o : Option Refusal) (t old : Session) {a : Result (Unit {0}) Refusal} (e : a ≡ answered o) where
  pub lent_refused : {r : Refusal} → a ≡ Err r → Lent (served_unless o t) old old (Err r)
  lent_refused {r} h = subst (λ (x : Option Refusal). Lent (served_unless x t) old old (Err r)) (sym (refused_some o tt (sym e ∙ h))) (record { answers = refl; leaves = refl })

  pub lent_served : {new : Session} → a ≡ Ok tt → new ≡ t → Lent (served_unless o t) old new (Ok tt)
  lent_served {new} h n = subst (λ (x : Option Refusal). Lent (served_unless x t) old new (Ok tt)) (sym (served_none o tt (sym e ∙ h))) (record { answers = refl; leaves = n })

-- ---- a session by value

-- out of its numbers and arrays
abbrev pub laid_out : Session → Numbers → Session
laid_out s n = session_at n s.extents s.sizes s.strides s.ranks s.weights s.costs s.plan.extents s.plan.blocks s.plan.strides

-- what a lent call leaves is what is handed out, where it answers so
pub value_served : (t : Result Session Refusal) {old new : Session} {a : Result (Unit {0}) Refusal} → Lent t old new a → a ≡ Ok tt → Ok new ≡ t
value_served (Ok s) l h = ap (λ (x : Session). Ok x) l.leaves
value_served (Err r) l h = let q : ◌≡◌ {A = Result (Unit {0}) Refusal} (Ok tt) (Err r) = sym h ∙ l.answers in cc

pub value_refused : (t : Result Session Refusal) {a : Result (Unit {0}) Refusal} → a ≡ whether t → {r : Refusal} → a ≡ Err r → Err r ≡ t
value_refused (Ok s) l {r} h = let q : ◌≡◌ {A = Result (Unit {0}) Refusal} (Err r) (Ok tt) = sym h ∙ l in cc
value_refused (Err q) l {r} h = let e : ◌≡◌ {A = Result (Unit {0}) Refusal} (Err r) (Err q) = sym h ∙ l in cc

-- ---- what the rows of a call let through

table_blank : (axs : List Axis) (m : ℕ) → m ≤ 8 → {PS : List ℤ} → PS ≡ stride_table axs m → PS ≡ padded 512 (pos 0) (take (m * 64) PS)
table_blank axs m few q =
    let long = length_over 64 (λ k. padded 64 (pos 0) (row k axs)) m 0 (λ j a b. length-padded (pos 0) 64 (row j axs)) in
    q ∙ ap (padded 512 (pos 0)) (sym (ap (take (m * 64)) q ∙ take_counted (pos 0) 512 (m * 64) (over (run 0 m) (λ k. padded 64 (pos 0) (row k axs))) long (omega (arith, few))))

module _ (n : Numbers) (E Z : List ℕ) (S : List ℤ) (R W C PE PB : List ℕ) (PS : List ℤ) where
  abbrev s : Session
  s = session_at n E Z S R W C PE PB PS

  -- the ranks are the table's
  own_table : Right s → {table : List (List ℕ)} → TableOf (take (n.rank * n.operands) S) n.rank n.operands table
      → Standing n.rank (take n.operands Z) (take (n.rank * n.operands) S) Z S R table
  own_table h {table} t =
      let l = right_layout s h in
      right-standing n E Z S l t (right-ranks s h ∙ sym (own_ranks n E Z S l table t))

  -- the strides of the plan stand in the rows of its operands
  own_plan : Right s → (n.plan_operands ≤ 8) × (PS ≡ padded 512 (pos 0) (take (n.plan_operands * 64) PS))
  own_plan h =
      let l = right_layout s h in
      let x = keeps_axes n E Z S l (right_keeps s h) in
      let few = l.few in let e = x.0 in
      (omega (arith, few, e), subst (λ (m : ℕ). PS ≡ padded 512 (pos 0) (take (m * 64) PS)) (sym e) (table_blank (plan_axes (take n.rank E) n.operands (take (n.rank * n.operands) S) (purpose_in n)) n.operands few x.1.strides))

  -- joining
  module _ (ts : List ℤ) {a : Result (Unit {0}) Refusal} (e : a ≡ answered (refused_by (join_rows s ts))) (h : a ≡ Ok tt) where
    passed : refused_by (join_rows s ts) ≡ None
    passed = served_none _ tt (sym e ∙ h)

    r : Right s
    r = join_right s ts passed

    pub join_stands : {table : List (List ℕ)} → TableOf (take (n.rank * n.operands) S) n.rank n.operands table
        → Standing n.rank (take n.operands Z) (take (n.rank * n.operands) S) Z S R table
    join_stands t = own_table r t

    pub join_plan : (n.plan_operands ≤ 8) × (PS ≡ padded 512 (pos 0) (take (n.plan_operands * 64) PS))
    join_plan = own_plan r

    pub join_few : n.operands < 8
    join_few = let a = join_room s ts passed in let e = right_operands s r in omega (arith, a, e)

    pub join_all : length ts ≡ n.rank
    join_all = join_counted s ts passed ∙ sym (right-rank s r)

    module _ (z : ℕ) (m : Numbers) (q : m ≡ with_more n) {Z' : List ℕ} {S' : List ℤ} {R' : List ℕ} {table' : List (List ℕ)}
        (st : Standing n.rank (take n.operands Z ++ (z ∷ [])) (take (n.rank * n.operands) S ++ ts) Z' S' R' table') where
      abbrev g : Given
      g = with_operand (given_of s) z ts

      l : LayoutRight n E Z S
      l = right_layout s r

      ok : refused_of g ≡ None
      ok = join_accepted (given_of s) z ts r.accepted (join_room s ts passed) (join_counted s ts passed) (join_near s ts passed)

      joined_stands : Stands g m E Z' S' R' table'
      joined_stands =
          let a = length-append (take n.operands Z) (z ∷ []) in
          let w = right_operands s r in
          record {
            extents = l.extents;
            operands = subst (λ (x : ℕ). Standing x g.sizes g.strides Z' S' R' table') (right-rank s r) st;
            rank = ap (λ (x : Numbers). x.rank) q ∙ right-rank s r;
            many = ap (λ (x : Numbers). x.operands) q ∙ (let b : n.operands + 1 ≡ length (take n.operands Z ++ (z ∷ [])) = omega (arith, a, w) in b);
            machine = ap (λ (x : Numbers). x.machine) q;
            kind = ap (λ (x : Numbers). x.purpose) q ∙ sym l.kind;
            chosen = ap (λ (x : Numbers). x.chosen) q ∙ sym l.chosen;
          }

      pub joined_layout : LayoutRight m E Z' S'
      joined_layout = stands_right ok joined_stands

      pub joined_table : TableOf (take (m.rank * m.operands) S') m.rank m.operands table'
      joined_table = stands_table ok joined_stands

      pub joined_session : (a : Numbers) (W' C' PE' PB' : List ℕ) (PS' : List ℤ) → a ≡ with_plan m a.plan_rank → KeptIn (given_in m E Z' S') a.plan_rank W' C' PE' PB' PS'
          → session_at a E Z' S' R' W' C' PE' PB' PS' ≡ fresh_of g
      joined_session = stands_session ok joined_stands

  -- leaving
  module _ (k : ℕ) {a : Result (Unit {0}) Refusal} (e : a ≡ answered (refused_by (leave_rows s k))) (h : a ≡ Ok tt) where
    let_out : refused_by (leave_rows s k) ≡ None
    let_out = served_none _ tt (sym e ∙ h)

    r' : Right s
    r' = leave_right s k let_out

    pub leave_stands : {table : List (List ℕ)} → TableOf (take (n.rank * n.operands) S) n.rank n.operands table
        → Standing n.rank (take n.operands Z) (take (n.rank * n.operands) S) Z S R table
    leave_stands t = own_table r' t

    pub leave_plan : (n.plan_operands ≤ 8) × (PS ≡ padded 512 (pos 0) (take (n.plan_operands * 64) PS))
    leave_plan = own_plan r'

    pub leave_at : k < n.operands
    leave_at = let a = leave_there s k let_out in let e = right_operands s r' in omega (arith, a, e)

    pub leave_few : n.operands ≤ 8
    leave_few = (right_layout s r').few

    pub leave_others : 1 < n.operands
    leave_others = let a = leave_two s k let_out in let e = right_operands s r' in omega (arith, a, e)

    module _ (m : Numbers) (q : m ≡ with_less n k) {Z' : List ℕ} {S' : List ℤ} {R' : List ℕ} {table' : List (List ℕ)}
        (st : Standing n.rank (sizes_without k (take n.operands Z)) (strides_without n.rank n.operands k (take (n.rank * n.operands) S)) Z' S' R' table') where
      abbrev g' : Given
      g' = without_operand (given_of s) k

      l' : LayoutRight n E Z S
      l' = right_layout s r'

      ok' : refused_of g' ≡ None
      ok' = leave_accepted (given_of s) k r'.accepted (leave_there s k let_out) (leave_two s k let_out)

      left_stands : Stands g' m E Z' S' R' table'
      left_stands =
          let a = right-rank s r' in
          let b = right_operands s r' in
          let d = length-rows (λ (j : ℕ). get_or (take n.operands Z) (old_place k j) 0) 0 (length (take n.operands Z) - 1) in
          record {
            extents = l'.extents;
            operands =
                subst (λ (x : ℕ). Standing x g'.sizes g'.strides Z' S' R' table') a
                (subst (λ (x : List ℤ). Standing n.rank g'.sizes x Z' S' R' table') (λ i. strides_without (a i) (b i) k (take (n.rank * n.operands) S)) st);
            rank = ap (λ (x : Numbers). x.rank) q ∙ a;
            many = ap (λ (x : Numbers). x.operands) q ∙ (let f : n.operands - 1 ≡ length (sizes_without k (take n.operands Z)) = omega (arith, d, b) in f);
            machine = ap (λ (x : Numbers). x.machine) q;
            kind = ap (λ (x : Numbers). x.purpose) q;
            chosen = ap (λ (x : Numbers). x.chosen) q;
          }

      pub left_layout : LayoutRight m E Z' S'
      left_layout = stands_right ok' left_stands

      pub left_table : TableOf (take (m.rank * m.operands) S') m.rank m.operands table'
      left_table = stands_table ok' left_stands

      pub left_session : (a : Numbers) (W' C' PE' PB' : List ℕ) (PS' : List ℤ) → a ≡ with_plan m a.plan_rank → KeptIn (given_in m E Z' S') a.plan_rank W' C' PE' PB' PS'
          → session_at a E Z' S' R' W' C' PE' PB' PS' ≡ fresh_of g'
      left_session = stands_session ok' left_stands
