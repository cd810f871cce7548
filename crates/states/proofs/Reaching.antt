-- Laws of row 10's test on a state's arrays: it is the conjunction of the parts that the code tests, in the code's order.
-- Assumes nothing.
use mathlib.Core.Path.{◌≡◌, refl, sym, ap, ap₂, ◌∙◌}
use mathlib.Core.Bool.{Bool, true, false, cond, ◌&&◌, ◌||◌, not}
use mathlib.Core.List.{List, [], ◌∷◌}
use Rattle.std.specs.Prelude.{None, Some}
use Prim.Native.Nat.{ℕ, zero, suc, ◌+◌, ◌<◌}
use native.Mathlib.Omega.{arith}
use lib.Dec.{ltb, eqb}
use lib.IntN.{ℤ, pos, ◌-ℤ◌}
use lib.ListN.{length, get_or, take, length-map}
use lib.Seq.{get_or-take}
use borrow.Author.Tests.{le-ltb, eqb-true, eq-eqb, ne_eqb, not-true}
use Rattle.strided.specs.Base.{some_of, run}
use Rattle.strided.specs.Layout.{NoZero, Within, within, has_zero, dot}
use Rattle.strided.specs.Refusals.{row5, row6, row9, leaves}
use Rattle.strided.specs.Walk.{cut_axes}
use Rattle.strided.specs.Begin.{plan_extents, plan_row, plan_rows, begin_refused}
use Rattle.strided.specs.Step.{blank, insideb, on_startb, zerosb, starts_from, is_none, may_begin, tidy, plan_cut_axes}
use Rattle.strided.specs.Memory.{walk_of}
use Rattle.strided.specs.declared.Plan.{Plan}
use Rattle.strided.specs.declared.Walk.{Walk}
use Rattle.laws.specs.Base.Layouts.{true_within}
use Rattle.laws.specs.Base.Lists.{length_run, get_d_run}
use Rattle.laws.specs.Base.Tests.{and_both}
use Rattle.laws.specs.Refusals.Zeros.{no_zero_of}
use Rattle.laws.specs.Walk.Machine.{length_starts}
use Rattle.layout.specs.Lent.{Whole}
use Rattle.layout.proofs.Lending.{axes_long, row_long}
use Rattle.states.specs.Starts.{leaves_at, some_leave, Begins}
use Rattle.states.specs.Near.{Near}
use Rattle.states.specs.Reaches.{standing, may_start, reaches}
use Rattle.states.proofs.Blanks.{within_inside, blank-zeros}
use Rattle.states.proofs.Nearness.{near-row6, near-stays}
use Rattle.states.proofs.Table.{cut-length}

-- tests that agree on the first n numbers
some_same : (f g : ℕ → Bool) (n : ℕ) → ((k : ℕ) → k < n → f k ≡ g k) → some_of f 0 n ≡ some_of g 0 n
unfolding some_of
some_same f g zero h = refl
some_same f g (suc n) h =
    ap₂ (λ (a b : Bool). cond a true b) (h (0 + n) (omega arith)) (some_same f g n (λ k l. h k (omega arith)))

-- an operand's start, read back
starts_at : (tss : List (List ℤ)) (os : List ℤ) (c : List ℕ) (k : ℕ) → length os ≡ length tss → k < length tss
    → get_or (starts_from tss os c) k (pos 0) ≡ get_or os k (pos 0) -ℤ dot c (get_or tss k [])
starts_at [] os c k e h = absurd (omega arith)
starts_at (ts ∷ tss) [] c k e h = absurd (omega arith)
starts_at (ts ∷ tss) (o ∷ os) c zero e h = refl
starts_at (ts ∷ tss) (o ∷ os) c (suc k) e h = starts_at tss os c k (omega arith) (omega arith)

-- counters that are all 0 are within
blank-within : (es c : List ℕ) → NoZero es → length c ≡ length es → blank c ≡ true → Within es c
blank-within [] [] h l b = tt
blank-within [] (x ∷ c) h l b = absurd (omega arith)
blank-within (e ∷ es) [] h l b = absurd (omega arith)
blank-within (e ∷ es) (x ∷ c) h l b =
    let p = and_both (eqb x 0) (blank c) b in
    let z : x ≡ 0 = eqb-true x 0 p.0 in
    (omega (arith, z, h.0), blank-within es c h.1 (omega arith) p.1)

-- where no row before row 5 applies, nor row 8
rest_none : (a b c : Bool) (r5 r6 r9 : _) → is_none (cond a (Some r5) (cond b (Some r6) (cond c (Some r9) None))) ≡ ((not a && not b) && not c)
rest_none true b c r5 r6 r9 = refl
rest_none false true c r5 r6 r9 = refl
rest_none false false true r5 r6 r9 = refl
rest_none false false false r5 r6 r9 = refl

-- where the counters may stand, by the tests that the code made

module _ (p : Plan) (c : List ℕ) where
  abbrev at : List ℕ
  at = take p.rank c

  pub stands_ended : {ended : Bool} → length at ≡ length (plan_extents p) → ended ≡ true → {t : Bool} → t ≡ blank at → t ≡ standing ended p c
  unfolding standing
  stands_ended {ended} l h is = is ∙ blank-zeros (plan_extents p) (take p.rank p.blocks) at l ∙ sym (rw h)

  module _ {ended : Bool} (h : ended ≡ false) {t : Bool} (is : t ≡ within (plan_extents p) at) where
    pub stands_out : t ≡ false → false ≡ standing ended p c
    unfolding standing
    stands_out g = sym (rw (h, sym (within_inside (plan_extents p) (take p.rank p.blocks) at) ∙ sym is ∙ g))

    pub stands_on : t ≡ true → {d : Bool} → d ≡ on_startb (plan_cut_axes p) at → d ≡ standing ended p c
    unfolding standing
    stands_on g on = on ∙ sym (rw (h, sym (within_inside (plan_extents p) (take p.rank p.blocks) at) ∙ sym is ∙ g))

module _ (ended : Bool) (p : Plan) (c : List ℕ) (o : List ℤ) (A : Whole p) (lc : length c ≡ 64) (lo : length o ≡ 8) where
  abbrev G : Walk
  G = walk_of ended c o

  abbrev es : List ℕ
  es = plan_extents p

  abbrev bs : List ℕ
  bs = take p.rank p.blocks

  abbrev cs : List ℕ
  cs = take p.rank c

  abbrev os : List ℤ
  os = take p.operands o

  abbrev zs : List ℤ
  zs = starts_from (plan_rows p) os cs

  long : length es ≡ p.rank
  long = axes_long A

  pub counters_long : length cs ≡ length es
  counters_long = sym (cut-length p.rank c (omega (arith, lc, A.axes))) ∙ sym long

  pub rows_long : (k : ℕ) → k < p.operands → length (plan_row p k) ≡ length es
  rows_long k h = row_long A k h ∙ sym long

  rows-many : length (plan_rows p) ≡ p.operands
  rows-many = length-map (run 0 p.operands) (plan_row p) ∙ length_run 0 p.operands

  offsets_long : length os ≡ p.operands
  offsets_long = sym (cut-length p.operands o (omega (arith, lo, A.few)))

  offsets_many : length os ≡ length (plan_rows p)
  offsets_many = offsets_long ∙ sym rows-many

  row-at : (k : ℕ) → k < p.operands → get_or (plan_rows p) k [] ≡ plan_row p k
  row-at k h = let y : 0 + k ≡ k = omega arith in get_d_run (plan_row p) [] p.operands 0 k h ∙ ap (plan_row p) y

  -- row 9 of the starts that the offsets tell
  row9-there : (row9 es p.operands (plan_row p) zs).applies ≡ some_leave p cs o
  unfolding some_leave leaves_at
  row9-there = ap (λ (t : Bool). not (has_zero es) && t) (some_same _ _ p.operands same)
    where
      same : (k : ℕ) → k < p.operands → leaves es (plan_row p k) (get_or zs k (pos 0)) ≡ leaves es (plan_row p k) (get_or o k (pos 0) -ℤ dot cs (plan_row p k))
      same k h =
          ap (leaves es (plan_row p k))
          (starts_at (plan_rows p) os cs k offsets_many (omega (arith, rows-many, h))
          ∙ ap₂ (λ (x : ℤ) (ts : List ℤ). x -ℤ dot cs ts) (get_or-take p.operands o k (pos 0) h) (row-at k h))

  may_is : may_begin p zs ≡ (may_start p && not (some_leave p cs o))
  unfolding begin_refused may_start
  may_is =
      let n : p.operands ≡ 0 → ⊥ = λ q. absurd (omega (arith, A.one)) in
      let one : ltb 64 p.rank ≡ false = le-ltb 64 p.rank A.axes in
      let two : (eqb p.operands 0 || ltb 8 p.operands) ≡ false = rw (ne_eqb p.operands 0 n) (le-ltb 8 p.operands A.few) in
      let eight : not (eqb (length zs) p.operands) ≡ false = ap not (eq-eqb (length zs) p.operands (length_starts (plan_rows p) os cs offsets_many ∙ rows-many)) in
      rw (one, two, eight)
      (rest_none (row5 es).applies (row6 es p.operands (plan_row p)).applies (row9 es p.operands (plan_row p) zs).applies _ _ _
      ∙ ap (λ (y : Bool). (not (row5 es).applies && not (row6 es p.operands (plan_row p)).applies) && not y) row9-there)

  -- THE TEST, part by part
  parts : reaches p G ≡ (tidy p G && (standing ended p c && (may_start p && not (some_leave p cs o))))
  unfolding reaches standing
  parts = rw (eq-eqb (length os) (length (plan_rows p)) offsets_many, may_is)

  module _ {t : Bool} (t-is : t ≡ tidy p G) where
    pub untidy : t ≡ false → false ≡ reaches p G
    untidy h = sym (parts ∙ rw (sym t-is ∙ h))

    module _ (th : t ≡ true) {d : Bool} (d-is : d ≡ standing ended p c) where
      pub stands_not : d ≡ false → false ≡ reaches p G
      stands_not h = sym (parts ∙ rw (sym t-is ∙ th, sym d-is ∙ h))

      module _ (dh : d ≡ true) where
        within-here : has_zero es ≡ false → Within es cs
        unfolding standing
        within-here z = go ended (sym d-is ∙ dh)
          where
            go : (x : Bool) → cond (not x) (insideb (cut_axes es bs) cs && on_startb (cut_axes es bs) cs) (zerosb (cut_axes es bs) cs) ≡ true → Within es cs
            go true q = blank-within es cs (no_zero_of es z) counters_long (blank-zeros es bs cs counters_long ∙ q)
            go false q = true_within es cs (within_inside es bs cs ∙ (and_both (insideb (cut_axes es bs) cs) (on_startb (cut_axes es bs) cs) q).0)

        -- nothing is large: row 5 alone is left
        pub near_last : Near p o → {x : Bool} → x ≡ (row5 es).applies → not x ≡ reaches p G
        unfolding may_start
        near_last n is =
            let six : (row6 es p.operands (plan_row p)).applies ≡ false = near-row6 p o (omega (arith, long, A.axes)) n in
            let nine : some_leave p cs o ≡ false = near-stays p o (omega (arith, long, A.axes)) n cs rows_long (omega (arith, lo, A.few)) within-here in
            ap not is ∙ sym (parts ∙ rw (sym t-is ∙ th, sym d-is ∙ dh, six, nine) (alone (not (row5 es).applies)))
          where
            alone : (x : Bool) → ((x && true) && true) ≡ x
            alone true = refl
            alone false = refl

        module _ {m : Bool} (m-is : m ≡ may_start p) where
          pub may-not : m ≡ false → false ≡ reaches p G
          may-not h = sym (parts ∙ rw (sym t-is ∙ th, sym d-is ∙ dh, sym m-is ∙ h))

          module _ (mh : m ≡ true) where
            pub leave_last : {l : Bool} → l ≡ some_leave p cs o → not l ≡ reaches p G
            leave_last is = ap not is ∙ sym (parts ∙ rw (sym t-is ∙ th, sym d-is ∙ dh, sym m-is ∙ mh))

            pub begins_here : Begins p cs o
            unfolding may_start
            begins_here =
                record {
                  offsets = omega (arith, lo, A.few);
                  within = within-here;
                  near = not-true _ (and_both (not (row5 es).applies) (not (row6 es p.operands (plan_row p)).applies) (sym m-is ∙ mh)).1;
                }
