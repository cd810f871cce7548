-- Row 10's test is its claim: two lists, plans and sessions pass the test exactly if they are the same. Assumes nothing.
use Rattle.std.specs.Prelude.{◌≡◌, Bool, true, false, List, [], ◌∷◌, ℕ, ◌<◌, eqb, ℤ, pos, negsuc, Option, None, Some}
use Rattle.std.proofs.Math.Path.{refl}
use Rattle.std.proofs.Common.{ap, ap₂, sym, subst, eqb-true, eq-eqb}
use Rattle.std.proofs.lemmas.Bool.{false≢true}
use Rattle.strided.specs.Fuse.{eq_z}
use Rattle.strided.specs.Step.{is_none}
use Rattle.strided.specs.declared.Refusal.{Refusal}
use Rattle.strided.specs.declared.Plan.{Plan}
use Rattle.laws.specs.Base.Tests.{and_both, both_and}
use Rattle.laws.specs.Fuse.Fused.{eq_z_true}
use Rattle.session.specs.declared.Session.{Session}
use Rattle.session.specs.Session.{refused_of, given_of, fresh_of, same_nats, same_ints, same_plan, same_session, Right, holds}

pub same_nats_lem : (xs ys : List ℕ) → same_nats xs ys ≡ true → xs ≡ ys
same_nats_lem [] [] h = refl
same_nats_lem [] (y ∷ ys) h = absurd (false≢true h)
same_nats_lem (x ∷ xs) [] h = absurd (false≢true h)
same_nats_lem (x ∷ xs) (y ∷ ys) h =
    let b = and_both (eqb x y) (same_nats xs ys) h in
    ap₂ (λ a r. a ∷ r) (eqb-true x y b.0) (same_nats_lem xs ys b.1)

nats_self : (xs : List ℕ) → same_nats xs xs ≡ true
nats_self [] = refl
nats_self (x ∷ xs) = both_and (eqb x x) (same_nats xs xs) (eq-eqb x x refl) (nats_self xs)

pub nats_same : (xs ys : List ℕ) → xs ≡ ys → same_nats xs ys ≡ true
nats_same xs ys e = subst (λ (l : List ℕ). same_nats xs l ≡ true) e (nats_self xs)

eq_z_self : (a : ℤ) → eq_z a a ≡ true
eq_z_self (pos n) = eq-eqb n n refl
eq_z_self (negsuc n) = eq-eqb n n refl

pub same_ints_lem : (xs ys : List ℤ) → same_ints xs ys ≡ true → xs ≡ ys
same_ints_lem [] [] h = refl
same_ints_lem [] (y ∷ ys) h = absurd (false≢true h)
same_ints_lem (x ∷ xs) [] h = absurd (false≢true h)
same_ints_lem (x ∷ xs) (y ∷ ys) h =
    let b = and_both (eq_z x y) (same_ints xs ys) h in
    ap₂ (λ a r. a ∷ r) (eq_z_true x y b.0) (same_ints_lem xs ys b.1)

ints_self : (xs : List ℤ) → same_ints xs xs ≡ true
ints_self [] = refl
ints_self (x ∷ xs) = both_and (eq_z x x) (same_ints xs xs) (eq_z_self x) (ints_self xs)

pub ints_same : (xs ys : List ℤ) → xs ≡ ys → same_ints xs ys ≡ true
ints_same xs ys e = subst (λ (l : List ℤ). same_ints xs l ≡ true) e (ints_self xs)

same_plan_lem : (p q : Plan) → same_plan p q ≡ true → p ≡ q
same_plan_lem p q h =
    let a = and_both (eqb p.rank q.rank) _ h in
    let b = and_both (eqb p.operands q.operands) _ a.1 in
    let c = and_both (same_nats p.extents q.extents) _ b.1 in
    let d = and_both (same_nats p.blocks q.blocks) (same_ints p.strides q.strides) c.1 in
    let ea = eqb-true p.rank q.rank a.0 in
    let eb = eqb-true p.operands q.operands b.0 in
    let ec = same_nats_lem p.extents q.extents c.0 in
    let ed = same_nats_lem p.blocks q.blocks d.0 in
    let ee = same_ints_lem p.strides q.strides d.1 in
    λ i. record { rank = ea i; operands = eb i; extents = ec i; blocks = ed i; strides = ee i }

plan_self : (p : Plan) → same_plan p p ≡ true
plan_self p =
    both_and (eqb p.rank p.rank) _ (eq-eqb p.rank p.rank refl)
    (both_and (eqb p.operands p.operands) _ (eq-eqb p.operands p.operands refl)
    (both_and (same_nats p.extents p.extents) _ (nats_self p.extents)
    (both_and (same_nats p.blocks p.blocks) (same_ints p.strides p.strides) (nats_self p.blocks) (ints_self p.strides))))

-- of two sessions with one record
same_session_lem : (s t : Session) → s.machine ≡ t.machine → same_session s t ≡ true → s ≡ t
unfolding same_session
same_session_lem s t m h =
    let a = and_both (eqb s.purpose t.purpose) _ h in
    let b = and_both (eqb s.chosen t.chosen) _ a.1 in
    let c = and_both (eqb s.rank t.rank) _ b.1 in
    let d = and_both (eqb s.operands t.operands) _ c.1 in
    let e = and_both (same_nats s.extents t.extents) _ d.1 in
    let f = and_both (same_nats s.sizes t.sizes) _ e.1 in
    let g = and_both (same_ints s.strides t.strides) _ f.1 in
    let k = and_both (same_nats s.ranks t.ranks) _ g.1 in
    let l = and_both (same_nats s.weights t.weights) _ k.1 in
    let n = and_both (same_nats s.costs t.costs) (same_plan s.plan t.plan) l.1 in
    let ea = eqb-true s.purpose t.purpose a.0 in
    let eb = eqb-true s.chosen t.chosen b.0 in
    let ec = eqb-true s.rank t.rank c.0 in
    let ed = eqb-true s.operands t.operands d.0 in
    let ee = same_nats_lem s.extents t.extents e.0 in
    let ef = same_nats_lem s.sizes t.sizes f.0 in
    let eg = same_ints_lem s.strides t.strides g.0 in
    let ek = same_nats_lem s.ranks t.ranks k.0 in
    let el = same_nats_lem s.weights t.weights l.0 in
    let en = same_nats_lem s.costs t.costs n.0 in
    let ep = same_plan_lem s.plan t.plan n.1 in
    λ i. record {
      purpose = ea i;
      chosen = eb i;
      machine = m i;
      rank = ec i;
      operands = ed i;
      extents = ee i;
      sizes = ef i;
      strides = eg i;
      ranks = ek i;
      weights = el i;
      costs = en i;
      plan = ep i;
    }

session_self : (s : Session) → same_session s s ≡ true
unfolding same_session
session_self s =
    both_and (eqb s.purpose s.purpose) _ (eq-eqb s.purpose s.purpose refl)
    (both_and (eqb s.chosen s.chosen) _ (eq-eqb s.chosen s.chosen refl)
    (both_and (eqb s.rank s.rank) _ (eq-eqb s.rank s.rank refl)
    (both_and (eqb s.operands s.operands) _ (eq-eqb s.operands s.operands refl)
    (both_and (same_nats s.extents s.extents) _ (nats_self s.extents)
    (both_and (same_nats s.sizes s.sizes) _ (nats_self s.sizes)
    (both_and (same_ints s.strides s.strides) _ (ints_self s.strides)
    (both_and (same_nats s.ranks s.ranks) _ (nats_self s.ranks)
    (both_and (same_nats s.weights s.weights) _ (nats_self s.weights)
    (both_and (same_nats s.costs s.costs) (same_plan s.plan s.plan) (nats_self s.costs) (plan_self s.plan))))))))))

-- ---- the test of row 10

none_is : (o : Option Refusal) → is_none o ≡ true → o ≡ None
none_is None h = refl
none_is (Some r) h = absurd (false≢true h)

module _ (s : Session) where
  pub holds-right : holds s ≡ true → Right s
  unfolding holds fresh_of
  holds-right h =
      let b = and_both (is_none (refused_of (given_of s))) (same_session s (fresh_of (given_of s))) h in
      record { accepted = none_is (refused_of (given_of s)) b.0; afresh = same_session_lem s (fresh_of (given_of s)) refl b.1 }

  pub right-holds : Right s → holds s ≡ true
  unfolding holds
  right-holds r =
      both_and (is_none (refused_of (given_of s))) (same_session s (fresh_of (given_of s)))
      (ap is_none r.accepted)
      (subst (λ (t : Session). same_session s t ≡ true) r.afresh (session_self s))

-- the code's test b of the claim is the definition's
pub record Decides (b : Bool) (P : Type 0) : Type 0 where
  pub yes : b ≡ true → P
  pub no : b ≡ false → P → ⊥

-- what looking for bits at n places answers, where P says which bits each has: none, or some at one of them
pub record NoneDiffer (P : ℕ → ℕ → Type 0) (n : ℕ) (none : Bool) : Type 0 where
  pub all : none ≡ true → (i : ℕ) → i < n → P i 0
  pub one : none ≡ false → (i : ℕ) × (x : ℕ) × (i < n) × P i x × (x ≡ 0 → ⊥)

pub decides_holds : (s : Session) (b : Bool) → Decides b (Right s) → b ≡ holds s
decides_holds s true d = sym (right-holds s (d.yes refl))
decides_holds s false d = sym (go (holds s) refl)
  where
    go : (b : Bool) → holds s ≡ b → holds s ≡ false
    go true h = absurd (d.no refl (holds-right s h))
    go false h = h
