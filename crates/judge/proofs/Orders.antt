-- THE ORDER OF LINES DOES NOT MATTER: lists of the same runs in another order have one verdict and leave the same marks, and their texts are
-- judged alike. And extents, text and buffer fix the judgement.
-- Assumes nothing.
use Rattle.std.specs.Prelude.{◌≡◌, refl, Bool, true, false, cond, ◌||◌, List, ◌∷◌, ◌++◌, map, ℕ, ◌+◌, min, ltb, length, replicate, Option, None, Some}
use Rattle.std.proofs.Common.{sym, ap, ◌∙◌, ⊎_elim, arith}
use Rattle.strided.specs.Base.{run, every, some_of}
use Rattle.strided.specs.Layout.{total}
use Rattle.strided.specs.declared.Refusal.{Refusal}
use Rattle.laws.specs.Base.Counting.{count}
use Rattle.judge.specs.Visits.{Visit, Formed, NotFormed}
use Rattle.judge.specs.Judge.{cells, met, leaves, some_leaves, index_at, met_at, verdict, marks_of, marks_after, Judgement, judging, judge_refused, Judges}
use Rattle.judge.specs.Counts.{often-count, count-append}
use Rattle.std.specs.Prelude.{Ok}
use Rattle.judge.specs.declared.Verdict.TheVariants.{Accepted, Short, Double, Outside}

-- the same runs, one after the other changed places
pub data Reordered : List Visit → List Visit → Type 0 where
  same : {vs : List Visit} → Reordered vs vs
  swap : {v w : Visit} {vs : List Visit} → Reordered (v ∷ w ∷ vs) (w ∷ v ∷ vs)
  keep : {v : Visit} {vs ws : List Visit} → Reordered vs ws → Reordered (v ∷ vs) (v ∷ ws)
  chain : {vs ws us : List Visit} → Reordered vs ws → Reordered ws us → Reordered vs us

-- each index lies in them as often
met_reordered : (x : List ℕ) {vs ws : List Visit} → Reordered vs ws → count x (met vs) ≡ count x (met ws)
met_reordered x same = refl
met_reordered x (swap {v} {w} {vs}) =
    let a = count-append x (cells v) (cells w ++ met vs) in
    let b = count-append x (cells w) (met vs) in
    let c = count-append x (cells w) (cells v ++ met vs) in
    let d = count-append x (cells v) (met vs) in
    omega (arith, a, b, c, d)
met_reordered x (keep {v} {vs} {ws} r) =
    count-append x (cells v) (met vs) ∙ ap (λ (n : ℕ). count x (cells v) + n) (met_reordered x r) ∙ sym (count-append x (cells v) (met ws))
met_reordered x (chain r s) = met_reordered x r ∙ met_reordered x s

or_swap : (a b c : Bool) → (a || (b || c)) ≡ (b || (a || c))
or_swap true true c = refl
or_swap true false c = refl
or_swap false true c = refl
or_swap false false c = refl

leaves_reordered : (es : List ℕ) {vs ws : List Visit} → Reordered vs ws → some_leaves es vs ≡ some_leaves es ws
leaves_reordered es same = refl
leaves_reordered es (swap {v} {w} {vs}) = or_swap (leaves es v) (leaves es w) (some_leaves es vs)
leaves_reordered es (keep {v} r) = ap (λ (b : Bool). leaves es v || b) (leaves_reordered es r)
leaves_reordered es (chain r s) = leaves_reordered es r ∙ leaves_reordered es s

-- what is judged is a matter of these two alone
abbrev judged_by : List ℕ → Bool → (ℕ → ℕ) → Judgement
judged_by es out often =
    record {
      answer = Ok (cond out Outside (cond (some_of (λ n. ltb 1 (often n)) 0 (total es)) Double (cond (every (λ n. ltb 0 (often n)) 0 (total es)) Accepted Short)));
      marks = cond out (replicate (total es) 0) (map (λ n. min 1 (often n)) (run 0 (total es)));
    }

judging_by : (es : List ℕ) (vs : List Visit) → judging es vs ≡ judged_by es (some_leaves es vs) (met_at es vs)
unfolding verdict marks_of marks_after
judging_by es vs = refl

-- VERDICT AND MARKS are those of any order
pub order_free : (es : List ℕ) {vs ws : List Visit} → Reordered vs ws → judging es vs ≡ judging es ws
order_free es {vs} {ws} r =
    let alike : met_at es vs ≡ met_at es ws = λ i n. (let x = index_at es n in (often-count x (met vs) ∙ met_reordered x r ∙ sym (often-count x (met ws))) i) in
    judging_by es vs
    ∙ ap (λ (b : Bool). judged_by es b (met_at es vs)) (leaves_reordered es r)
    ∙ ap (λ (f : ℕ → ℕ). judged_by es (some_leaves es ws) f) alike
    ∙ sym (judging_by es ws)

-- two judgements, each of a text and the same buffer: refused by a row alike, or each by its text
module _ (es marks : List ℕ) (j k : Judgement) where
  judged_alike : (a b : List ℕ) → Judges es a marks j → Judges es b marks k → (judge_refused es (length marks) ≡ None → j ≡ k) → j ≡ k
  judged_alike a b d e f = go (judge_refused es (length marks)) refl
    where
      go : (o : Option Refusal) → judge_refused es (length marks) ≡ o → j ≡ k
      go None q = f q
      go (Some r) q = d.refused r q ∙ sym (e.refused r q)

  -- THE ENTRY judges the texts of both alike
  pub text_order_free : (a b : List ℕ) {vs ws : List Visit} → Formed (length es) a vs → Formed (length es) b ws → Reordered vs ws
      → Judges es a marks j → Judges es b marks k → j ≡ k
  text_order_free a b {vs} {ws} p q r d e =
      judged_alike a b d e (λ n. (d.judged n).formed vs p ∙ order_free es r ∙ sym ((e.judged n).formed ws q))

  -- there is one judgement at most
  pub judged_once : (a : List ℕ) → Judges es a marks j → Judges es a marks k → j ≡ k
  judged_once a d e =
      judged_alike a a d e (λ n. ⊎_elim
      (λ (f : (vs : List Visit) × Formed (length es) a vs). (d.judged n).formed f.0 f.1 ∙ sym ((e.judged n).formed f.0 f.1))
      (λ (f : NotFormed (length es) a). (d.judged n).unformed f ∙ sym ((e.judged n).unformed f))
      (d.judged n).either)
