-- The first row that applies refuses: the laws that an entry's tests, one after the other, are proved with. Assumes nothing.
use Rattle.std.specs.Prelude.{◌≡◌, refl, Bool, true, false, cond, ◌&&◌, not, List, [], ◌∷◌, ◌++◌, ℕ, ◌≤◌, ltb, eqb, Option, None, Some, Ok, Err}
use Rattle.std.proofs.Common.{sym, ap, ◌∙◌, arith, ltb-false}
use Rattle.std.proofs.lemmas.Bool.{false≢true}
use Rattle.strided.specs.Memory.{whether}
use Rattle.strided.specs.Refusals.{Row, row1, row2, refused_by, answered, served_unless}
use Rattle.strided.specs.declared.Refusal.{Refusal}
use Rattle.laws.specs.Base.Refusals.{NoneApplies}
use Rattle.laws.specs.Base.Tests.{or_none}

-- ---- the code's tests, row by row

-- of all rows none before rs applies, so rs decide
pub record Past (all rs : List Row) : Type 0 where
  pub same : refused_by all ≡ refused_by rs

pub past_none : (all : List Row) → Past all all
past_none all = record { same = refl }

-- the code's test b is that of the first row left: it fails, and the next row is up; or it holds, and this row refuses
module _ {all rs : List Row} {r : Row} (p : Past all (r ∷ rs)) {b : Bool} (is : b ≡ r.applies) where
  pub past_next : b ≡ false → Past all rs
  past_next h = record { same = p.same ∙ rw (sym is ∙ h) }

  pub past_some : b ≡ true → refused_by all ≡ Some r.refusal
  past_some h = p.same ∙ rw (sym is ∙ h)

  pub past_refused : b ≡ true → Err r.refusal ≡ answered (refused_by all)
  past_refused h = sym (ap answered (past_some h))

pub past_served : {all : List Row} → Past all [] → Ok tt ≡ answered (refused_by all)
past_served p = sym (ap answered p.same)

-- ---- rows before others

pub rows_refuse : (xs ys : List Row) (r : Refusal) → refused_by xs ≡ Some r → refused_by (xs ++ ys) ≡ Some r
rows_refuse [] ys r h = let z : ◌≡◌ {A = ℕ} 0 1 = cc h in absurd (omega arith)
rows_refuse (x ∷ xs) ys r h = go x.applies h (rows_refuse xs ys r)
  where
    go : (b : Bool) → cond b (Some x.refusal) (refused_by xs) ≡ Some r → (refused_by xs ≡ Some r → refused_by (xs ++ ys) ≡ Some r)
        → cond b (Some x.refusal) (refused_by (xs ++ ys)) ≡ Some r
    go true q f = q
    go false q f = f q

pub rows_pass : (xs ys : List Row) → refused_by xs ≡ None → refused_by (xs ++ ys) ≡ refused_by ys
rows_pass [] ys h = refl
rows_pass (x ∷ xs) ys h = go x.applies h (rows_pass xs ys)
  where
    go : (b : Bool) → cond b (Some x.refusal) (refused_by xs) ≡ None → (refused_by xs ≡ None → refused_by (xs ++ ys) ≡ refused_by ys)
        → cond b (Some x.refusal) (refused_by (xs ++ ys)) ≡ refused_by ys
    go true q f = let z : ◌≡◌ {A = ℕ} 0 1 = cc q in absurd (omega arith)
    go false q f = f q

-- ---- no row applies

pub none_refuses : (rs : List Row) → NoneApplies rs → refused_by rs ≡ None
unfolding NoneApplies
none_refuses [] h = refl
none_refuses (r ∷ rs) h = rw h.0 (none_refuses rs h.1)

-- an entry serves exactly if it does not refuse
pub served_none : {A : Type 0} (o : Option Refusal) (value : A) {given : A} → served_unless o value ≡ Ok given → o ≡ None
served_none None value h = refl
served_none (Some r) value h = cc

-- with the value that is asked for
pub served_is : {A : Type 0} (o : Option Refusal) (value : A) {given : A} → served_unless o value ≡ Ok given → given ≡ value
served_is None value h = cc
served_is (Some r) value h = cc

pub refused_some : {A : Type 0} (o : Option Refusal) (value : A) {r : Refusal} → served_unless o value ≡ Err r → o ≡ Some r
refused_some None value h = cc
refused_some (Some s) value h = cc

pub whether_is : {A : Type 0} (o : Option Refusal) (value : A) → whether (served_unless o value) ≡ answered o
whether_is None value = refl
whether_is (Some r) value = refl

-- what a check answers, with a value beside it: that value where it serves, its refusal where not
pub refused_too : {A : Type 0} (o : Option Refusal) (value : A) {r : Refusal} → Err r ≡ answered o → Err r ≡ served_unless o value
refused_too o value h = sym (ap (λ (p : Option Refusal). served_unless p value) (refused_some o tt (sym h)))

pub served_too : {A : Type 0} (o : Option Refusal) {given value : A} → Ok tt ≡ answered o → given ≡ value → Ok given ≡ served_unless o value
served_too o {given} {value} h e =
    ap (λ (v : _). Ok v) e ∙ sym (ap (λ (p : Option Refusal). served_unless p value) (served_none o tt (sym h)))

-- a row that passes where z holds
pub unless-passes : (z t : Bool) → (not z && t) ≡ false → z ≡ false → t ≡ false
unless-passes true t h q = absurd (false≢true (sym q))
unless-passes false t h q = h

pub passes-unless : (z t : Bool) → (z ≡ false → t ≡ false) → (not z && t) ≡ false
passes-unless true t h = refl
passes-unless false t h = h refl

-- ---- what rows 1 and 2 let through

pub few-axes : (rank : ℕ) {b : Bool} → b ≡ (row1 rank).applies → b ≡ false → rank ≤ 64
few-axes rank is h = ltb-false 64 rank (sym is ∙ h)

pub few_operands : (operands : ℕ) {b : Bool} → b ≡ (row2 operands).applies → b ≡ false → operands ≤ 8
few_operands operands is h = ltb-false 8 operands (or_none (eqb operands 0) (ltb 8 operands) (sym is ∙ h)).1
