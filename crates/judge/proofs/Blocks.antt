-- OUR OWN WALKS AS RUNS ALONG THEIR BLOCKS: where the cells of a block are told one after the other along one original axis, the blocks of a
-- walk followed to its end, each as one run along that axis, are accepted. `AlongAxis` says so of a walk, by the indices told; Along has plans
-- of which it holds.
-- Assumes nothing.
use Rattle.std.specs.Prelude.{◌≡◌, refl, List, [], ◌∷◌, ◌++◌, map, ℕ, zero, suc, ◌+◌, ◌≤◌, ◌<◌, ℤ, length, take, Option, None, Some, Result, Ok}
use Rattle.std.proofs.Common.{sym, ap, ap₂, ◌∙◌, subst, append-nil, zero-add, arith}
use Rattle.strided.specs.Base.{over, nth, run}
use Rattle.strided.specs.Plan.{planned}
use Rattle.strided.specs.Begin.{begun_at}
use Rattle.strided.specs.Demand3.{replaced, steps_from, Ends, Place}
use Rattle.strided.specs.declared.Machine.{Machine}
use Rattle.strided.specs.declared.Purpose.{Purpose}
use Rattle.strided.specs.declared.Plan.{Plan}
use Rattle.strided.specs.declared.Refusal.{Refusal}
use Rattle.strided.specs.declared.Block.{Block}
use Rattle.strided.specs.declared.Stepped.{Stepped}
use Rattle.strided.specs.Step.{handed_block}
use Rattle.laws.specs.Base.Lists.{over-append}
use Rattle.laws.specs.Base.Counting.{count}
use Rattle.laws.specs.Demand3.Whole.{demand3_any}
use Rattle.judge.specs.Visits.{Visit}
use Rattle.judge.specs.Judge.{moved, cells, met, verdict}
use Rattle.judge.specs.Counts.{counted, stands_counted}
use Rattle.judge.proofs.Verdicts.{lies_stands, lies_once, accepted_iff}
use Rattle.judge.proofs.Own.{EachOnce, told_by, told_at, told_in, told_before, taken, walk_once}
use Rattle.judge.specs.declared.Verdict.TheVariants.{Accepted}
use Rattle.strided.specs.declared.Walk.{Walk}

-- any runs whose cells are each index of the layout once
pub cells_accepted : (es : List ℕ) (vs : List Visit) → EachOnce es (met vs) → verdict es vs ≡ Accepted
cells_accepted es vs h =
    (accepted_iff es vs).1 (
      (λ i k x l. (let n = counted x (met vs) (stands_counted cells x vs i k (lies_stands vs i k x l)) in h.inside n.0 x n.1)),
      (λ x w. (let c : count x (met vs) ≡ 1 = h.once x w in lies_once vs x (omega (arith, c)) (omega (arith, c)))),
    )

-- ---- lists joined

over-over : {A : Type 0} (f : A → List Visit) (g : A → List (List ℕ)) (l : List A) → ((i : ℕ) (x : A) → nth l i ≡ Some x → over (f x) cells ≡ g x) → over (over l f) cells ≡ over l g
over-over f g [] h = refl
over-over f g (x ∷ l) h =
    over-append (f x) (over l f) cells ∙ ap₂ (λ a b. a ++ b) (h 0 x refl) (over-over f g l (λ i y e. h (suc i) y e))

map-run : {B : Type 0} (f g : ℕ → B) (s n : ℕ) → ((k : ℕ) → k < n → f (s + k) ≡ g (s + k)) → map f (run s n) ≡ map g (run s n)
map-run f g s zero h = refl
map-run f g s (suc n) h =
    let e : s + 0 ≡ s = omega arith in
    let a : f s ≡ g s = ap f (sym e) ∙ h 0 (omega arith) ∙ ap g e in
    ap₂ (λ x r. x ∷ r) a (map-run f g (suc s) n (λ k l. (let q : suc s + k ≡ s + suc k = omega arith in ap f q ∙ h (suc k) (omega arith) ∙ ap g (sym q))))

-- ---- the runs of a walk's blocks

module _ (es sizes : List ℕ) (ss : List ℤ) (u : Purpose) (p : Plan) (steps : List (Result Stepped Refusal)) (a : ℕ) where
  -- a block, from the index told at its first cell
  abbrev pub block_run : Block → Visit
  block_run b = record { axis = a; len = b.length; index = told_at es sizes ss u p steps b 0 }

  abbrev pub run_by : Option Block → List Visit
  run_by None = []
  run_by (Some b) = block_run b ∷ []

  abbrev pub run_in : Result Stepped Refusal → List Visit
  run_in s = run_by (handed_block s)

  -- those of the steps before step m
  abbrev pub runs_before : ℕ → List Visit
  runs_before m = over (take m steps) run_in

  -- cell k of a block is told k further along the original axis a than the first
  abbrev pub AlongAxis : Type 0
  AlongAxis = (m k : ℕ) (b : Block) → Place es sizes ss u p steps m k b → told_at es sizes ss u p steps b k ≡ moved a k (told_at es sizes ss u p steps b 0)

  module _ (along : AlongAxis) where
    run-cells : (i : ℕ) (s : Result Stepped Refusal) → nth steps i ≡ Some s → over (run_in s) cells ≡ told_in es sizes ss u p steps s
    run-cells i s e = go (handed_block s) refl
      where
        go : (o : Option Block) → handed_block s ≡ o → over (run_by o) cells ≡ told_by es sizes ss u p steps o
        go None q = refl
        go (Some b) q =
            append-nil (cells (block_run b))
            ∙ map-run (λ (k : ℕ). moved a k (told_at es sizes ss u p steps b 0)) (told_at es sizes ss u p steps b) 0 b.length
            (λ k l. ap (λ (j : ℕ). moved a j (told_at es sizes ss u p steps b 0)) (zero-add k)
            ∙ sym (along i k b (record { step = s; there = e; hands = q; below = l }))
            ∙ ap (told_at es sizes ss u p steps b) (sym (zero-add k)))

    runs_cells : (m : ℕ) → met (runs_before m) ≡ told_before es sizes ss u p steps m
    runs_cells m = over-over run_in (told_in es sizes ss u p steps) (take m steps) (λ i s e. run-cells i s (taken es sizes ss u p steps steps m i s e).1)

-- OUR OWN WALKS, BLOCK BY BLOCK: as `own_accepted`, with each block as one run along the original axis a that its cells go along
pub blocks_accepted : (mc : Machine) (es sizes : List ℕ) (ss : List ℤ) (u : Purpose) (q : Plan) → planned mc es sizes ss u ≡ Ok q → length es ≤ 64
    → (bs : List ℕ) (starts : List ℤ) (w : Walk) → begun_at (replaced q bs) starts ≡ Ok w
    → (n a : ℕ)
    → let p : Plan = replaced q bs in
    let steps : List (Result Stepped Refusal) = steps_from p n w in
    AlongAxis es sizes ss u p steps a → (m : ℕ) (s : Result Stepped Refusal) (end : Walk) → nth steps m ≡ Some s → Ends s end
    → verdict es (runs_before es sizes ss u p steps a m) ≡ Accepted
blocks_accepted mc es sizes ss u q hp few bs starts w hb n a along m s end e h =
    let p : Plan = replaced q bs in
    let steps : List (Result Stepped Refusal) = steps_from p n w in
    cells_accepted es (runs_before es sizes ss u p steps a m)
    (subst (EachOnce es) (sym (runs_cells es sizes ss u p steps a along m))
    (walk_once es sizes ss u p steps few starts (demand3_any mc es sizes ss u hp bs starts hb n) m s end e h))
