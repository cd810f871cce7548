-- ROW 10 IS EXACT: a session passes its test exactly if some beginning and some list of accepted calls lead to it. One way goes along the
-- calls; the other begins with the very layout that the session has. So after any accepted calls each kept part equals what the present layout
-- gives afresh. Assumes nothing.
use Rattle.std.specs.Prelude.{◌≡◌, refl, Bool, true, false, not, List, [], ◌∷◌, ◌↔◌, ℕ, Option, None, Some}
use Rattle.std.proofs.Common.{sym, ap, ◌∙◌, subst, arith}
use Rattle.std.proofs.lemmas.Bool.{false≢true, not-false}
use Rattle.strided.specs.Refusals.{refused_by, served_unless}
use Rattle.strided.specs.declared.Refusal.{Refusal}
use Rattle.session.specs.declared.Session.{Session}
use Rattle.session.specs.Session.{Given, refused_of, ranks_of, weights_of, costs_of, plan_of, fresh_of, given_of, Right, holds, row10, join_rows, leave_rows, begun, joined, left, Call, Joins, Leaves, handed, called, through, Reached}
use Rattle.session.specs.Same.{holds-right, right-holds}
use Rattle.session.specs.Afresh.{right-fresh, joined-right, left-right}

-- what is handed out is right if it is so where nothing refuses
handed-right : (o : Option Refusal) (t : Session) → (o ≡ None → Right t) → (s : Session) → handed (served_unless o t) ≡ Some s → Right s
handed-right None t f s h = subst Right (let e : t ≡ s = cc h in e) (f refl)
handed-right (Some r) t f s h = let z : ◌≡◌ {A = ℕ} 0 1 = cc h in absurd (omega arith)

pub begun-right : (g : Given) (s : Session) → handed (begun g) ≡ Some s → Right s
unfolding begun
begun-right g s h = handed-right (refused_of g) (fresh_of g) (right-fresh g) s h

pub called-right : (c : Call) (s t : Session) → called c s ≡ Some t → Right t
unfolding joined left
called-right (Joins z ts) s t h = handed-right (refused_by (join_rows s ts)) _ (λ q. joined-right s ts q z) t h
called-right (Leaves k) s t h = handed-right (refused_by (leave_rows s k)) _ (left-right s k) t h

through-right : (cs : List Call) (m : Option Session) → ((s : Session) → m ≡ Some s → Right s) → (t : Session) → through cs m ≡ Some t → Right t
through-right [] m f t h = f t h
through-right (c ∷ cs) None f t h = let z : ◌≡◌ {A = ℕ} 0 1 = cc h in absurd (omega arith)
through-right (c ∷ cs) (Some s) f t h = through-right cs (called c s) (λ u q. called-right c s u q) t h

-- ---- both ways

pub reached_right : (s : Session) → Reached s → Right s
reached_right s r = through-right r.calls (handed (begun r.beginning)) (begun-right r.beginning) s r.leads

pub right_reached : (s : Session) → Right s → Reached s
unfolding begun
right_reached s r =
    record {
      beginning = given_of s;
      calls = [];
      leads = ap (λ (o : Option Refusal). handed (served_unless o (fresh_of (given_of s)))) r.accepted ∙ ap Some (sym r.afresh);
    }

pub row10-passes : (s : Session) → ((row10 s).applies ≡ false) ↔ Reached s
row10-passes s = (λ h. right_reached s (holds-right s (not-false (holds s) h)), λ r. ap not (right-holds s (reached_right s r)))

pub row10_exact : (s : Session) → ((row10 s).applies ≡ true) ↔ (Reached s → ⊥)
row10_exact s = (λ h r. absurd (false≢true (sym (ap not (right-holds s (reached_right s r))) ∙ h)), λ f. go (holds s) refl f)
  where
    go : (b : Bool) → holds s ≡ b → (Reached s → ⊥) → not b ≡ true
    go true h f = absurd (f (right_reached s (holds-right s h)))
    go false h f = refl

-- ---- "After any accepted calls each of these equals what the present layout would give afresh"

pub record Kept (s : Session) : Type 0 where
  pub ranks : s.ranks ≡ ranks_of (given_of s)
  pub weights : s.weights ≡ weights_of (given_of s)
  pub costs : s.costs ≡ costs_of (given_of s)
  pub plan : s.plan ≡ plan_of (given_of s)

pub reached_kept : (s : Session) → Reached s → Kept s
unfolding fresh_of
reached_kept s r =
    let e = (reached_right s r).afresh in
    record {
      ranks = ap (λ (t : Session). t.ranks) e;
      weights = ap (λ (t : Session). t.weights) e;
      costs = ap (λ (t : Session). t.costs) e;
      plan = ap (λ (t : Session). t.plan) e;
    }
