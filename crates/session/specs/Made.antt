-- A session in lent arrays: what its functions ask of arrays and tell of them, and what a call leaves in them. Assumes nothing.
use Rattle.std.specs.Prelude.{◌≡◌, cond, List, [], map, ℕ, ◌+◌, ◌-◌, ◌*◌, ◌≤◌, ◌<◌, leb, ℤ, pos, length, get_or, take, replicate, None, Result}
use Rattle.strided.specs.Base.{padded, over, run}
use Rattle.strided.specs.Layout.{Axis, total, lead, extents as extents_of}
use Rattle.strided.specs.Machine.{Allowed}
use Rattle.strided.specs.Memory.{purpose_of, kept, whether}
use Rattle.strided.specs.Ranks.{rank_table}
use Rattle.strided.specs.Weights.{weights as weighed}
use Rattle.strided.specs.Fuse.{plan_axes}
use Rattle.strided.specs.Costs.{costs as costed}
use Rattle.strided.specs.Plan.{stride_table, cut_blocks}
use Rattle.strided.specs.declared.Machine.{Machine}
use Rattle.strided.specs.declared.Purpose.{Purpose}
use Rattle.strided.specs.declared.Plan.{Plan}
use Rattle.strided.specs.declared.Refusal.{Refusal}
use Rattle.laws.specs.Fuse.Arrays.{pick_rows}
use Rattle.layout.specs.Fitting.{Fitting}
use Rattle.model.specs.Plannable.{Plannable}
use Rattle.session.specs.declared.Numbers.{Numbers}
use Rattle.session.specs.declared.Session.{Session}
use Rattle.session.specs.Session.{Given, given, given_of, refused_of, weights_of, costs_of, plan_of, kind_of, purpose_without}

-- ---- the table of ranks

-- a row of ranks has 64 places, and each number in it fits a byte
pub record RankRow (row : List ℕ) : Type 0 where
  pub long : length row ≡ 64
  pub small : (i : ℕ) → i < 64 → get_or row i 0 < 256

-- and so has each row of a table
pub record Even (table : List (List ℕ)) : Type 0 where
  pub rows : (k : ℕ) → k < 8 → RankRow (get_or table k [])

-- the first n rows, one behind the other, and in an array
abbrev pub rows_of : List (List ℕ) → ℕ → List ℕ
rows_of table n = over (run 0 n) (λ k. get_or table k [])

abbrev pub ranks_in : List (List ℕ) → ℕ → List ℕ
ranks_in table n = padded 512 0 (rows_of table n)

-- it is the table of these strides
pub record TableOf (ss : List ℤ) (rank operands : ℕ) (table : List (List ℕ)) : Type 0 where
  pub is : table ≡ padded 8 (replicate 64 0) (map (padded 64 0) (rank_table ss rank operands))

-- ---- the layout

-- the layout in the arrays, with its purpose and record
abbrev pub purpose_in : Numbers → Purpose
purpose_in n = purpose_of n.purpose n.chosen

abbrev pub given_in : Numbers → List ℕ → List ℕ → List ℤ → Given
given_in n E Z S = given n.machine (take n.rank E) (take n.operands Z) (take (n.rank * n.operands) S) (purpose_in n)

-- it is laid out as a session has it, and planning accepts it
pub record LayoutRight (n : Numbers) (E Z : List ℕ) (S : List ℤ) : Type 0 where
  pub axes : n.rank ≤ 64
  pub few : n.operands ≤ 8
  pub kind : kind_of (purpose_in n) ≡ n.purpose
  pub chosen : lead (purpose_in n) ≡ n.chosen
  pub extents : E ≡ padded 64 0 (take n.rank E)
  pub sizes : Z ≡ padded 8 0 (take n.operands Z)
  pub strides : S ≡ padded 512 (pos 0) (take (n.rank * n.operands) S)
  pub accepted : refused_of (given_in n E Z S) ≡ None

-- its operands of sizes zs and strides ss stand in the arrays, with their ranks
pub record Standing (rank : ℕ) (zs : List ℕ) (ss : List ℤ) (Z : List ℕ) (S : List ℤ) (R : List ℕ) (table : List (List ℕ)) : Type 0 where
  pub fits : Fitting ss rank (length zs)
  pub sizes : Z ≡ padded 8 0 zs
  pub strides : S ≡ padded 512 (pos 0) ss
  pub rows : TableOf ss rank (length zs) table
  pub ranks : R ≡ ranks_in table (length zs)

-- the numbers of a session that begins, with an operand more, without operand k, and with the plan's
abbrev pub begun_with : Machine → Purpose → ℕ → ℕ → Numbers
begun_with mc u rank operands =
    record {
      purpose = kind_of u;
      chosen = lead u;
      machine = mc;
      rank = rank;
      operands = operands;
      plan_rank = 0;
      plan_operands = 0;
    }

abbrev pub with_more : Numbers → Numbers
with_more n =
    record {
      purpose = n.purpose;
      chosen = n.chosen;
      machine = n.machine;
      rank = n.rank;
      operands = n.operands + 1;
      plan_rank = n.plan_rank;
      plan_operands = n.plan_operands;
    }

abbrev pub with_less : Numbers → ℕ → Numbers
with_less n k =
    record {
      purpose = kind_of (purpose_without k (purpose_in n));
      chosen = lead (purpose_without k (purpose_in n));
      machine = n.machine;
      rank = n.rank;
      operands = n.operands - 1;
      plan_rank = n.plan_rank;
      plan_operands = n.plan_operands;
    }

abbrev pub with_plan : Numbers → ℕ → Numbers
with_plan n rank =
    record {
      purpose = n.purpose;
      chosen = n.chosen;
      machine = n.machine;
      rank = n.rank;
      operands = n.operands;
      plan_rank = rank;
      plan_operands = n.operands;
    }

-- ---- the kept parts

-- the weights of the layout's axes, in an array
abbrev pub weights_in : Numbers → List ℕ → List ℤ → List ℕ
weights_in n E S = padded 64 0 (weighed (take n.rank E) n.operands (take (n.rank * n.operands) S) (lead (purpose_in n)))

-- the weights of a layout, and its plan's axes, are in the arrays
pub record AxesIn (es : List ℕ) (m : ℕ) (ss : List ℤ) (u : Purpose) (rank : ℕ) (W E : List ℕ) (S : List ℤ) : Type 0 where
  pub weights : W ≡ padded 64 0 (weighed es m ss (lead u))
  pub count : rank ≡ length (plan_axes es m ss u)
  pub extents : E ≡ padded 64 0 (extents_of (plan_axes es m ss u))
  pub strides : S ≡ stride_table (plan_axes es m ss u) m

-- the extents of axes that were fused are in an array, and in another which of a layout's n axes have their strides
pub record StaysOf (n m : ℕ) (ss : List ℤ) (axs : List Axis) (rank : ℕ) (E A : List ℕ) : Type 0 where
  pub count : rank ≡ length axs
  pub few : rank ≤ 64
  pub extents : E ≡ padded 64 0 (extents_of axs)
  pub places : length A ≡ 64
  pub inside : (j : ℕ) → j < rank → get_or A j 0 < n
  pub strides : padded 512 (pos 0) (pick_rows ss n (take rank A) m) ≡ stride_table axs m

-- those of the plan's axes
abbrev pub StaysIn : List ℕ → ℕ → List ℤ → Purpose → ℕ → List ℕ → List ℕ → Type 0
StaysIn es m ss u rank E A = StaysOf (length es) m ss (plan_axes es m ss u) rank E A

abbrev pub AxesAt : Numbers → List ℕ → List ℤ → ℕ → List ℕ → List ℕ → List ℤ → Type 0
AxesAt n E S rank W PE PS = AxesIn (take n.rank E) n.operands (take (n.rank * n.operands) S) (purpose_in n) rank W PE PS

-- the plan's axes can be cut, if there are cells enough
pub record Cuttable (n : Numbers) (E Z PE : List ℕ) (PS : List ℤ) : Type 0 where
  pub machine : Allowed n.machine
  pub axes : n.rank ≤ 64
  pub one : 0 < n.operands
  pub few : n.operands ≤ 8
  pub plan : n.plan_rank ≤ 64
  pub extents : length E ≡ 64
  pub sizes : length Z ≡ 8
  pub places : length PE ≡ 64
  pub cut : 1024 < total (take n.rank E) → Plannable (take n.operands Z) PE PS n.plan_rank (purpose_in n)

-- their costs and blocks, and these are in the arrays
abbrev pub costs_in : Numbers → List ℤ → List ℕ
costs_in n PS = padded 64 0 (costed PS n.operands n.plan_rank)

abbrev pub blocks_in : Numbers → List ℕ → List ℕ → List ℕ → List ℤ → List ℕ
blocks_in n E Z PE PS = cond (leb (total (take n.rank E)) 1024) PE (cut_blocks n.machine (take n.operands Z) PE PS n.plan_rank (purpose_in n))

pub record BlocksAt (n : Numbers) (E Z PE : List ℕ) (PS : List ℤ) (C B : List ℕ) : Type 0 where
  pub costs : C ≡ costs_in n PS
  pub blocks : B ≡ blocks_in n E Z PE PS

-- weights, costs and plan of the layout are in the arrays
pub record KeptIn (g : Given) (rank : ℕ) (W C E B : List ℕ) (S : List ℤ) : Type 0 where
  pub weights : W ≡ weights_of g
  pub costs : C ≡ costs_of g
  pub plan : ◌≡◌ {A = Plan} (record { rank = rank; operands = length g.sizes; extents = E; blocks = B; strides = S }) (plan_of g)

-- a session with these numbers and arrays keeps what the layout gives, beside the ranks
pub record Keeps (g : Given) (n : Numbers) (W C E B : List ℕ) (S : List ℤ) : Type 0 where
  pub parts : KeptIn g n.plan_rank W C E B S
  pub operands : n.plan_operands ≡ length g.sizes

-- ---- a session out of its numbers and arrays, and what a call leaves of it

abbrev pub session_at : Numbers → List ℕ → List ℕ → List ℤ → List ℕ → List ℕ → List ℕ → List ℕ → List ℕ → List ℤ → Session
session_at n E Z S R W C PE PB PS =
    record {
      purpose = n.purpose;
      chosen = n.chosen;
      machine = n.machine;
      rank = n.rank;
      operands = n.operands;
      extents = E;
      sizes = Z;
      strides = S;
      ranks = R;
      weights = W;
      costs = C;
      plan = record { rank = n.plan_rank; operands = n.plan_operands; extents = PE; blocks = PB; strides = PS };
    }

-- the arrays have their whole lengths
pub record Whole (s : Session) : Type 0 where
  pub extents : length s.extents ≡ 64
  pub sizes : length s.sizes ≡ 8
  pub strides : length s.strides ≡ 512
  pub ranks : length s.ranks ≡ 512
  pub weights : length s.weights ≡ 64
  pub costs : length s.costs ≡ 64
  pub plan_extents : length s.plan.extents ≡ 64
  pub blocks : length s.plan.blocks ≡ 64
  pub plan_strides : length s.plan.strides ≡ 512

-- the numbers of a session
abbrev pub numbers_of : Session → Numbers
numbers_of s =
    record {
      purpose = s.purpose;
      chosen = s.chosen;
      machine = s.machine;
      rank = s.rank;
      operands = s.operands;
      plan_rank = s.plan.rank;
      plan_operands = s.plan.operands;
    }

-- a session's layout is right; the table is that of its ranks; its weights, its plan's axes, their costs and blocks are what the layout gives, and
-- so is all that it keeps beside the ranks
abbrev pub LaidRight : Session → Type 0
LaidRight s = LayoutRight (numbers_of s) s.extents s.sizes s.strides

abbrev pub Tables : Session → List (List ℕ) → Type 0
Tables s table = TableOf (take (s.rank * s.operands) s.strides) s.rank s.operands table

abbrev pub WeightsRight : Session → Type 0
WeightsRight s = s.weights ≡ weights_in (numbers_of s) s.extents s.strides

abbrev pub AxesRight : Session → Type 0
AxesRight s = (s.plan.operands ≡ s.operands) × AxesAt (numbers_of s) s.extents s.strides s.plan.rank s.weights s.plan.extents s.plan.strides

abbrev pub BlocksRight : Session → Type 0
BlocksRight s = BlocksAt (numbers_of s) s.extents s.sizes s.plan.extents s.plan.strides s.costs s.plan.blocks

abbrev pub KeepsRight : Session → Type 0
KeepsRight s = Keeps (given_of s) (numbers_of s) s.weights s.costs s.plan.extents s.plan.blocks s.plan.strides

-- the call answers, and a session lent that was `old` is `new`: the one handed out, or on a refusal the old one
pub record Lent (t : Result Session Refusal) (old new : Session) (answer : Result (Unit {0}) Refusal) : Type 0 where
  pub answers : answer ≡ whether t
  pub leaves : new ≡ kept (λ s. s) t old
