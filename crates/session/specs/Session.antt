-- "Operands that come and go" (document 02, ask 8). "A session begins with any layout that planning accepts, and shall take a new operand at
-- the end, or drop one by number with the later ones moving up. It keeps the ranks and weights of the layout's axes, the costs of the plan's
-- axes, and the plan." Everything that is kept is defined in crate strided; here it is put together.
-- Assumes nothing.
use Rattle.std.specs.Prelude.{◌≡◌, Bool, true, false, cond, ◌&&◌, ◌||◌, not, List, [], ◌∷◌, ◌++◌, map, ℕ, suc, ◌-◌, ◌*◌, ltb, leb, eqb, ℤ, pos, length, get_or, take, Option, None, Some, Result, Ok, Err}
use Rattle.strided.specs.Base.{padded, over, run}
use Rattle.strided.specs.Layout.{stride_row, lead}
use Rattle.strided.specs.Ranks.{rank_table}
use Rattle.strided.specs.Weights.{weights}
use Rattle.strided.specs.Fuse.{eq_z, plan_axes}
use Rattle.strided.specs.Costs.{costs}
use Rattle.strided.specs.Plan.{stride_table, plan_from}
use Rattle.strided.specs.Refusals.{Row, refused_by, served_unless, row3, row6, planning_refused}
use Rattle.strided.specs.Step.{is_none}
use Rattle.strided.specs.Memory.{purpose_of}
use Rattle.strided.specs.declared.Machine.{Machine}
use Rattle.strided.specs.declared.Purpose.{Purpose}
use Rattle.strided.specs.declared.Purpose.TheVariants.{Pointwise, PointwiseInto, Fold}
use Rattle.strided.specs.declared.Refusal.{Refusal}
use Rattle.strided.specs.declared.Refusal.TheVariants.{State, Ninth, Leaving}
use Rattle.strided.specs.declared.Plan.{Plan}
use Rattle.session.specs.declared.Session.{Session}

-- what fixes a plan: "layout, purpose and record alone" (ask 13)
pub record Given : Type 0 where
  pub machine : Machine
  pub extents : List ℕ
  pub sizes : List ℕ
  pub strides : List ℤ
  pub purpose : Purpose

-- out of its parts
abbrev pub given : Machine → List ℕ → List ℕ → List ℤ → Purpose → Given
given mc es sizes ss u = record { machine = mc; extents = es; sizes = sizes; strides = ss; purpose = u }

abbrev pub refused_of : Given → Option Refusal
refused_of g = planning_refused g.machine g.extents g.sizes g.strides g.purpose

-- ---- what a layout gives

-- "the ranks .. of the layout's axes": operand k's from place k * 64 on
unfoldable pub ranks_of : Given → List ℕ
ranks_of g = padded 512 0 (over (rank_table g.strides (length g.extents) (length g.sizes)) (padded 64 0))

-- "and weights of the layout's axes"
unfoldable pub weights_of : Given → List ℕ
weights_of g = padded 64 0 (weights g.extents (length g.sizes) g.strides (lead g.purpose))

-- "the costs of the plan's axes"
unfoldable pub costs_of : Given → List ℕ
costs_of g =
    let axs = plan_axes g.extents (length g.sizes) g.strides g.purpose in
    padded 64 0 (costs (stride_table axs (length g.sizes)) (length g.sizes) (length axs))

-- "and the plan"
unfoldable pub plan_of : Given → Plan
plan_of g = plan_from g.machine g.extents g.sizes (plan_axes g.extents (length g.sizes) g.strides g.purpose) g.purpose

-- a purpose as two numbers, which `purpose_of` reads back: 0, 1 or 2, and the chosen operand, 0 where there is none
abbrev pub kind_of : Purpose → ℕ
kind_of Pointwise = 0
kind_of (PointwiseInto k) = 1
kind_of (Fold k) = 2

-- all of it "afresh"
unfoldable pub fresh_of : Given → Session
fresh_of g =
    record {
      purpose = kind_of g.purpose;
      chosen = lead g.purpose;
      machine = g.machine;
      rank = length g.extents;
      operands = length g.sizes;
      extents = padded 64 0 g.extents;
      sizes = padded 8 0 g.sizes;
      strides = padded 512 (pos 0) g.strides;
      ranks = ranks_of g;
      weights = weights_of g;
      costs = costs_of g;
      plan = plan_of g;
    }

-- the present layout of a session, with its purpose and record
abbrev pub given_of : Session → Given
given_of s =
    record {
      machine = s.machine;
      extents = take s.rank s.extents;
      sizes = take s.operands s.sizes;
      strides = take (s.rank * s.operands) s.strides;
      purpose = purpose_of s.purpose s.chosen;
    }

-- ---- operands that come and go

-- "take a new operand at the end"; the chosen one stays what it was
abbrev pub with_operand : Given → ℕ → List ℤ → Given
with_operand g z ts =
    record {
      machine = g.machine;
      extents = g.extents;
      sizes = g.sizes ++ (z ∷ []);
      strides = g.strides ++ ts;
      purpose = g.purpose;
    }

-- "drop one by number with the later ones moving up": the operand at place j afterwards was the one of this number, where k was dropped
abbrev pub old_place : ℕ → ℕ → ℕ
old_place k j = cond (ltb j k) j (suc j)

-- and the place that operand c has afterwards, which is not k
abbrev pub new_place : ℕ → ℕ → ℕ
new_place k c = cond (ltb k c) (c - 1) c

-- "The chosen operand moves with its data. Dropping the chosen one leaves none for P, operand 0 for F."
abbrev pub purpose_without : ℕ → Purpose → Purpose
purpose_without k Pointwise = Pointwise
purpose_without k (PointwiseInto c) = cond (eqb c k) Pointwise (PointwiseInto (new_place k c))
purpose_without k (Fold c) = cond (eqb c k) (Fold 0) (Fold (new_place k c))

abbrev pub sizes_without : ℕ → List ℕ → List ℕ
sizes_without k sizes = map (λ j. get_or sizes (old_place k j) 0) (run 0 (length sizes - 1))

abbrev pub strides_without : ℕ → ℕ → ℕ → List ℤ → List ℤ
strides_without rank operands k ss = over (run 0 (operands - 1)) (λ j. stride_row ss rank (old_place k j))

abbrev pub without_operand : Given → ℕ → Given
without_operand g k =
    record {
      machine = g.machine;
      extents = g.extents;
      sizes = sizes_without k g.sizes;
      strides = strides_without (length g.extents) (length g.sizes) k g.strides;
      purpose = purpose_without k g.purpose;
    }

-- ---- row 10

-- two lists, two records, two plans and two sessions are the same
abbrev pub same_nats : List ℕ → List ℕ → Bool
same_nats [] [] = true
same_nats [] (y ∷ ys) = false
same_nats (x ∷ xs) [] = false
same_nats (x ∷ xs) (y ∷ ys) = eqb x y && same_nats xs ys

abbrev pub same_ints : List ℤ → List ℤ → Bool
same_ints [] [] = true
same_ints [] (y ∷ ys) = false
same_ints (x ∷ xs) [] = false
same_ints (x ∷ xs) (y ∷ ys) = eq_z x y && same_ints xs ys

abbrev pub same_plan : Plan → Plan → Bool
same_plan p q =
    eqb p.rank q.rank
    && (eqb p.operands q.operands
    && (same_nats p.extents q.extents && (same_nats p.blocks q.blocks && same_ints p.strides q.strides)))

-- but for the record: where the two are compared it is the same
unfoldable pub same_session : Session → Session → Bool
same_session s t =
    eqb s.purpose t.purpose
    && (eqb s.chosen t.chosen
    && (eqb s.rank t.rank
    && (eqb s.operands t.operands
    && (same_nats s.extents t.extents
    && (same_nats s.sizes t.sizes
    && (same_ints s.strides t.strides
    && (same_nats s.ranks t.ranks
    && (same_nats s.weights t.weights
    && (same_nats s.costs t.costs
    && same_plan s.plan t.plan)))))))))

-- the claim: planning accepts the session's layout, and everything else in the session is what that layout gives
pub record Right (s : Session) : Type 0 where
  pub accepted : refused_of (given_of s) ≡ None
  pub afresh : s ≡ fresh_of (given_of s)

-- and the test
unfoldable pub holds : Session → Bool
holds s = is_none (refused_of (given_of s)) && same_session s (fresh_of (given_of s))

-- 10, "for a session that no beginning and accepted calls lead to" (Reached: it applies exactly to those)
abbrev pub row10 : Session → Row
row10 s = record { applies = not (holds s); refusal = State }

-- ---- the other rows

-- 20, "a ninth operand"
abbrev pub row20 : ℕ → Row
row20 operands = record { applies = leb 8 operands; refusal = Ninth }

-- 21, "dropping one that is not there, or the only one left"
abbrev pub row21 : ℕ → ℕ → Row
row21 operands k = record { applies = leb operands k || eqb operands 1; refusal = Leaving }

-- "10, before all others", "before 3": 10, 20, 3, 6. Rows 3 and 6 judge the operand that joins
abbrev pub new_rows : ℕ → ℕ → List ℕ → List ℤ → List Row
new_rows rank operands es ts = row20 operands ∷ row3 rank 1 ts ∷ row6 es 1 (λ k. ts) ∷ []

abbrev pub join_rows : Session → List ℤ → List Row
join_rows s ts = row10 s ∷ new_rows s.rank s.operands (given_of s).extents ts

-- 10, 21
abbrev pub leave_rows : Session → ℕ → List Row
leave_rows s k = row10 s ∷ row21 s.operands k ∷ []

-- ---- the entries. "A refusal carries its number and nothing else."

-- A SESSION BEGINS: "with any layout that planning accepts"
unfoldable pub begun : Given → Result Session Refusal
begun g = served_unless (refused_of g) (fresh_of g)

-- AN OPERAND of size z and strides ts JOINS: "After any accepted calls each of these equals what the present layout would give afresh"
unfoldable pub joined : Session → ℕ → List ℤ → Result Session Refusal
joined s z ts = served_unless (refused_by (join_rows s ts)) (fresh_of (with_operand (given_of s) z ts))

-- OPERAND k LEAVES. "a session keeps the one it began with" (ask 13), of the record, and so do both
unfoldable pub left : Session → ℕ → Result Session Refusal
left s k = served_unless (refused_by (leave_rows s k)) (fresh_of (without_operand (given_of s) k))

-- ---- the sessions that beginnings and accepted calls lead to

pub data Call : Type 0 where
  Joins : ℕ → List ℤ → Call
  Leaves : ℕ → Call

-- the session that an accepted call hands out
abbrev pub handed : Result Session Refusal → Option Session
handed (Ok s) = Some s
handed (Err r) = None

abbrev pub called : Call → Session → Option Session
called (Joins z ts) s = handed (joined s z ts)
called (Leaves k) s = handed (left s k)

-- through a list of calls, each on the session that the one before it handed out
abbrev pub through : List Call → Option Session → Option Session
through [] m = m
through (c ∷ cs) None = None
through (c ∷ cs) (Some s) = through cs (called c s)

-- some beginning and some list of accepted calls lead to the session
pub record Reached (s : Session) : Type 0 where
  pub beginning : Given
  pub calls : List Call
  pub leads : through calls (handed (begun beginning)) ≡ Some s
