-- OUR OWN WALKS: "Each of our own walks at such a rank and total, followed to its end and turned into runs of single cells along axis 0, is
-- accepted." First of any list that has each index of the layout once and no other; then of the indices told at the places of a walk.
-- Assumes nothing.
use Rattle.std.specs.Prelude.{◌≡◌, refl, false, List, [], ◌∷◌, map, ℕ, zero, suc, ◌*◌, ◌≤◌, ◌<◌, ℤ, length, take, Option, None, Some, Err, Result}
use Rattle.std.proofs.Common.{sym, ap, ◌∙◌, subst, add-zero, zero-add, arith, le-ltb, eq-eqb, ne_eqb}
use Rattle.strided.specs.Base.{over, nth, run}
use Rattle.strided.specs.Layout.{total, Within, max_u}
use Rattle.strided.specs.Index.{told_original}
use Rattle.strided.specs.Text.{Each, FitU}
use Rattle.strided.specs.Plan.{planned}
use Rattle.strided.specs.Begin.{begun_at}
use Rattle.strided.specs.Demand3.{replaced, steps_from, Ends, Place, cell_of, Meets, Demand3}
use Rattle.strided.specs.declared.Machine.{Machine}
use Rattle.strided.specs.declared.Purpose.{Purpose}
use Rattle.strided.specs.declared.Plan.{Plan}
use Rattle.strided.specs.declared.Told.{Told}
use Rattle.strided.specs.declared.Block.{Block}
use Rattle.strided.specs.declared.Stepped.{Stepped}
use Rattle.laws.specs.Base.Lists.{nth-take}
use Rattle.laws.specs.Base.Counting.{count}
use Rattle.laws.specs.Base.Arrays.{take_counted}
use Rattle.laws.specs.Base.Layouts.{within-length, extent_le, within-total}
use Rattle.laws.specs.Base.Sums.{mul_pos}
use Rattle.laws.specs.Refusals.Zeros.{row5-total}
use Rattle.strided.specs.Step.{handed_block}
use Rattle.laws.specs.Demand3.Served.{one_block}
use Rattle.laws.specs.Demand3.Whole.{demand3_any, walk_ends, exactly_one}
use Rattle.strided.specs.Refusals.{row5}
use Rattle.judge.specs.Visits.{Visit, visit_line, VisitFits, Formed}
use Rattle.judge.specs.Judge.{moved, verdict, judge_refused, Judgement, Judges}
use Rattle.judge.specs.Counts.{Stands, counted, there, once_only, counted_stands, once_stands, nth-run, run-nth}
use Rattle.judge.proofs.Verdicts.{Lies, accepted_iff}
use Rattle.judge.specs.declared.Verdict.TheVariants.{Accepted}
use Rattle.std.specs.Prelude.{Ok}
use Rattle.strided.specs.declared.Walk.{Walk}
use Rattle.strided.specs.declared.Refusal.{Refusal}

-- ---- runs of single cells along axis 0

abbrev pub single : List ℕ → Visit
single x = record { axis = 0; len = 1; index = x }

abbrev pub singles : List (List ℕ) → List Visit
singles xs = map single xs

moved_none : (x : List ℕ) → moved 0 0 x ≡ x
moved_none [] = refl
moved_none (y ∷ x) = ap (λ (k : ℕ). k ∷ x) (add-zero y)

-- run i of them is the i-th index
single_lies : (xs : List (List ℕ)) (i k : ℕ) (x : List ℕ) → Lies (singles xs) i k x → (nth xs i ≡ Some x) × (k ≡ 0)
single_lies [] i k x l = let q = l.there in let z : ◌≡◌ {A = ℕ} 0 1 = cc q in absurd (omega arith)
single_lies (y ∷ xs) zero k x l =
    let q = l.there in
    let e : single y ≡ l.visit = cc q in
    let n : k < 1 = subst (λ (v : Visit). k < v.len) (sym e) l.below in
    let z : k ≡ 0 = omega arith in
    let s : x ≡ moved 0 k y = subst (λ (v : Visit). x ≡ moved v.axis k v.index) (sym e) l.is in
    (ap (λ (w : List ℕ). Some w) (sym (s ∙ ap (λ (j : ℕ). moved 0 j y) z ∙ moved_none y)), z)
single_lies (y ∷ xs) (suc i) k x l = single_lies xs i k x (record { visit = l.visit; there = l.there; below = l.below; is = l.is })

lies_single : (xs : List (List ℕ)) (i : ℕ) (x : List ℕ) → nth xs i ≡ Some x → Lies (singles xs) i 0 x
lies_single [] i x e = let z : ◌≡◌ {A = ℕ} 0 1 = cc e in absurd (omega arith)
lies_single (y ∷ xs) zero x e =
    let q : y ≡ x = cc e in
    record { visit = single y; there = refl; below = omega arith; is = sym (moved_none y ∙ q) }
lies_single (y ∷ xs) (suc i) x e =
    let l = lies_single xs i x e in
    record { visit = l.visit; there = l.there; below = l.below; is = l.is }

-- each index of the layout stands in the list once, and no other
pub record EachOnce (es : List ℕ) (xs : List (List ℕ)) : Type 0 where
  pub inside : (i : ℕ) (x : List ℕ) → nth xs i ≡ Some x → Within es x
  pub once : (x : List ℕ) → Within es x → count x xs ≡ 1

-- A LIST WITH EACH INDEX ONCE IS ACCEPTED, as runs of single cells
pub singles_accepted : (es : List ℕ) (xs : List (List ℕ)) → EachOnce es xs → verdict es (singles xs) ≡ Accepted
singles_accepted es xs h =
    (accepted_iff es (singles xs)).1 (
      (λ i k x l. h.inside i x (single_lies xs i k x l).0),
      (λ x w.
          let c : count x xs ≡ 1 = h.once x w in
          let n = counted x xs (omega arith) in (
            n.0,
            0,
            lies_single xs n.0 x n.1,
            λ j l g.
                let s = single_lies xs j l x g in
                (once_only x xs j n.0 (omega arith) s.0 n.1, s.1),
          )),
    )

-- ---- their text is in the form

pub each_fits : (es x : List ℕ) → total es ≤ 65536 → Within es x → Each FitU x
each_fits [] [] t w = tt
each_fits [] (y ∷ x) t w = absurd w
each_fits (e ∷ es) [] t w = absurd w
each_fits (e ∷ es) (y ∷ x) t w =
    let p : 0 < e * total es = within-total (e ∷ es) (y ∷ x) w in
    let a : e ≤ e * total es = extent_le (e ∷ es) 0 p in
    let b : total es ≤ e * total es = tail_le e (total es) (mul_pos e (total es) p).0 in
    (omega (arith, a, t, w.0), each_fits es x (omega (arith, b, t)) w.1)
  where
    tail_le : (a b : ℕ) → 0 < a → b ≤ a * b
    tail_le zero b h = absurd (omega arith)
    tail_le (suc a) b h = omega arith

pub singles_formed : (es : List ℕ) (xs : List (List ℕ)) → 0 < length es → total es ≤ 65536 → ((i : ℕ) (x : List ℕ) → nth xs i ≡ Some x → Within es x)
    → Formed (length es) (over (singles xs) visit_line) (singles xs)
singles_formed es xs h t w = record { form = refl; fits = go xs w }
  where
    go : (xs : List (List ℕ)) → ((i : ℕ) (x : List ℕ) → nth xs i ≡ Some x → Within es x) → Each (VisitFits (length es)) (singles xs)
    go [] w = tt
    go (x ∷ xs) w = (
      record {
        there = h;
        some = omega arith;
        count = within-length es x (w 0 x refl);
        axis_fits = omega arith;
        len_fits = omega arith;
        index_fits = each_fits es x t (w 0 x refl);
      },
      go xs (λ i y e. w (suc i) y e),
    )

-- and the entry takes it, with a buffer of the right length
not-refused : (es : List ℕ) (room : ℕ) → 0 < length es → length es ≤ 64 → total es ≤ 65536 → room ≡ total es → judge_refused es room ≡ None
unfolding judge_refused
not-refused es room h r t e =
    let five : (row5 es).applies ≡ false = row5-total es ∙ le-ltb max_u (total es) (omega arith) in
    rw (le-ltb 64 (length es) r, five, le-ltb 65536 (total es) t, ne_eqb (length es) 0 (λ z. absurd (omega arith)), eq-eqb room (total es) e)

-- THE ENTRY ACCEPTS a text of runs that are accepted
pub text_accepted : (es text marks : List ℕ) (vs : List Visit) → Formed (length es) text vs → verdict es vs ≡ Accepted
    → 0 < length es → length es ≤ 64 → total es ≤ 65536 → length marks ≡ total es
    → (j : Judgement) → Judges es text marks j → j.answer ≡ Ok Accepted
text_accepted es text marks vs f v r1 r2 t e j d =
    ap (λ (k : Judgement). k.answer) ((d.judged (not-refused es (length marks) r1 r2 t e)).formed vs f) ∙ ap Ok v

-- ---- the walk

-- the index that index finding tells
abbrev pub index_of : Result Told Refusal → List ℕ
index_of (Ok t) = t.index
index_of (Err r) = []

module _ (es sizes : List ℕ) (ss : List ℤ) (u : Purpose) (p : Plan) (steps : List (Result Stepped Refusal)) where
  abbrev pub told_at : Block → ℕ → List ℕ
  told_at b k = take (length es) (index_of (told_original es sizes ss u (cell_of es sizes ss u p steps k b)))

  -- the original indices told at the places of a step, in order: none at a step that hands out no block
  abbrev pub told_by : Option Block → List (List ℕ)
  told_by None = []
  told_by (Some b) = map (told_at b) (run 0 b.length)

  abbrev pub told_in : Result Stepped Refusal → List (List ℕ)
  told_in s = told_by (handed_block s)

  -- those of the steps before step m
  abbrev pub told_before : ℕ → List (List ℕ)
  told_before m = over (take m steps) told_in

  told_block : (o : Option Block) (k : ℕ) (x : List ℕ) → nth (told_by o) k ≡ Some x → (b : Block) × (o ≡ Some b) × (nth (map (told_at b) (run 0 b.length)) k ≡ Some x)
  told_block None k x e = let z : ◌≡◌ {A = ℕ} 0 1 = cc e in absurd (omega arith)
  told_block (Some b) k x e = (b, refl, e)

  -- an element of the first m is one of all, and its number is below m
  pub taken : (l : List (Result Stepped Refusal)) (m i : ℕ) (s : Result Stepped Refusal) → nth (take m l) i ≡ Some s → (i < m) × (nth l i ≡ Some s)
  taken l zero i s e = let z : ◌≡◌ {A = ℕ} 0 1 = cc e in absurd (omega arith)
  taken [] (suc m) i s e = let z : ◌≡◌ {A = ℕ} 0 1 = cc e in absurd (omega arith)
  taken (a ∷ l) (suc m) zero s e = (omega arith, e)
  taken (a ∷ l) (suc m) (suc i) s e = let r = taken l m i s e in let h : i < m = r.0 in (omega arith, r.1)

  module _ (few : length es ≤ 64) (starts : List ℤ) (d : Demand3 es sizes ss u p steps starts) where
    -- at a place where x is met, x is told
    pub told-met : (m k : ℕ) (x : List ℕ) (q : Meets es sizes ss u p steps m k x) → told_at q.by k ≡ x
    told-met m k x q =
        ap (λ (t : Result Told Refusal). take (length es) (index_of t)) (d.tells m k x q) ∙ take_counted 0 64 (length es) x (within-length es x q.inside) few

    -- what stands in the list of told indices is met there
    stands_meets : (m j l : ℕ) (x : List ℕ) → Stands (take m steps) told_in j l x → Meets es sizes ss u p steps j l x
    stands_meets m j l x t =
        let a = taken steps m j t.of t.element in
        let found = told_block (handed_block t.of) l x t.inside in
        let b : Block = found.0 in
        let r = run-nth (told_at b) b.length 0 l x found.2 in
        let place : Place es sizes ss u p steps j l b = record { step = t.of; there = a.1; hands = found.1; below = r.0 } in
        let w = d.meets j l b place in
        let y : List ℕ = w.0 in
        let q : Meets es sizes ss u p steps j l y = w.1 in
        let e : x ≡ y =
        r.1 ∙ ap (told_at b) (zero-add l) ∙ ap (λ (v : Block). told_at v l) (one_block es sizes ss u p steps place q.place) ∙ told-met j l y q in
        subst (λ (v : List ℕ). Meets es sizes ss u p steps j l v) (sym e) q

    meets_stands : (m i k : ℕ) (x : List ℕ) → i < m → Meets es sizes ss u p steps i k x → Stands (take m steps) told_in i k x
    meets_stands m i k x h q =
        let b : Block = q.by in
        let n : nth (map (told_at b) (run 0 b.length)) k ≡ Some x =
        nth-run (told_at b) b.length 0 k q.place.below ∙ ap (λ (j : ℕ). Some (told_at b j)) (zero-add k) ∙ ap (λ (v : List ℕ). Some v) (told-met i k x q) in
        record {
          of = q.place.step;
          element = nth-take steps m i h ∙ q.place.there;
          inside = ap (λ (o : Option Block). nth (told_by o) k) q.place.hands ∙ n;
        }

    -- the indices told before the end: each of the layout once, and no other
    pub walk_once : (m : ℕ) (s : Result Stepped Refusal) (end : Walk) → nth steps m ≡ Some s → Ends s end → EachOnce es (told_before m)
    walk_once m s end e h =
        record {
          inside = λ i x g. (
              let w = counted_stands told_in x (take m steps) (there x (told_before m) i g) in
              (stands_meets m w.0 w.1 x w.2).inside);
          once = λ x w. (
              let q = exactly_one es sizes ss u p steps starts d m s end e h x w in
              once_stands told_in x (take m steps) q.0 q.1 (meets_stands m q.0 q.1 x q.2 q.3) (λ j l t. q.4 j l (stands_meets m j l x t)));
        }

-- OUR OWN WALKS ARE ACCEPTED: a layout that planning does not refuse, of rank 1 to 64 and with at most 65,536 cells, any purpose, its plan with each
-- block size left or replaced by any number, any starts that are not refused; the steps up to one that answers "ended", as runs of single
-- cells along axis 0 at the indices told; and a mark buffer of the right length
pub own_accepted : (mc : Machine) (es sizes : List ℕ) (ss : List ℤ) (u : Purpose) (q : Plan) → planned mc es sizes ss u ≡ Ok q
    → 0 < length es → length es ≤ 64 → total es ≤ 65536
    → (bs : List ℕ) (starts : List ℤ) (w : Walk) → begun_at (replaced q bs) starts ≡ Ok w
    → (n m : ℕ) (s : Result Stepped Refusal) (end : Walk)
    → nth (steps_from (replaced q bs) n w) m ≡ Some s
    → Ends s end
    → (marks : List ℕ) → length marks ≡ total es → (j : Judgement)
    → Judges es
    (over (singles (told_before es sizes ss u (replaced q bs) (steps_from (replaced q bs) n w) m)) visit_line)
    marks j
    → j.answer ≡ Ok Accepted
own_accepted mc es sizes ss u q hp r1 r2 t bs starts w hb n m s end e h marks k j d =
    let p : Plan = replaced q bs in
    let steps : List (Result Stepped Refusal) = steps_from p n w in
    let xs : List (List ℕ) = told_before es sizes ss u p steps m in
    let each : EachOnce es xs = walk_once es sizes ss u p steps r2 starts (demand3_any mc es sizes ss u hp bs starts hb n) m s end e h in
    text_accepted es (over (singles xs) visit_line) marks (singles xs) (singles_formed es xs r1 t each.inside) (singles_accepted es xs each) r1 r2 t k j d

-- and there is such a step: every walk comes to its end
pub own_ends : (mc : Machine) (es sizes : List ℕ) (ss : List ℤ) (u : Purpose) (q : Plan) → planned mc es sizes ss u ≡ Ok q
    → (bs : List ℕ) (starts : List ℤ) (w : Walk) → begun_at (replaced q bs) starts ≡ Ok w
    → (m : ℕ) × (s : Result Stepped Refusal) × (end : Walk)
    × (nth (steps_from (replaced q bs) (suc m) w) m ≡ Some s) × Ends s end
own_ends mc es sizes ss u q hp bs starts w hb = walk_ends mc es sizes ss u hp bs starts hb
