-- HOW GOOD THE L1 FIT IS (document 02, ask 14), stated as a course prints it: of the fit by itself, on any blocks of at least 1; then of the
-- plan of a copy, P into c, beside that of the sum by the same operand, F by c, whose blocks are "the model's": those before fitting. Crate
-- laws proves both for every machine record. Axis 0 is the innermost.
-- Assumes nothing.
use Rattle.std.specs.Prelude.{◌≡◌, ◌⊎◌, true, false, List, ◌∷◌, ◌++◌, ℕ, suc, ◌+◌, ◌*◌, ◌≤◌, ◌<◌, ℤ, pos, nat_abs, length, get_or, set, take, drop, Ok, Err, Result}
use Rattle.strided.specs.Base.{every}
use Rattle.strided.specs.Layout.{total}
use Rattle.strided.specs.Region.{byte_table, region}
use Rattle.strided.specs.Costs.{costs}
use Rattle.strided.specs.Cut.{plan_ranks, cutting}
use Rattle.strided.specs.Decline.{declined}
use Rattle.strided.specs.Fit.{load, enters, fitted}
use Rattle.strided.specs.Plan.{grows, planned}
use Rattle.strided.specs.declared.Machine.{Machine}
use Rattle.strided.specs.declared.Purpose.TheVariants.{PointwiseInto, Fold}
use Rattle.strided.specs.declared.Plan.{Plan}
use Rattle.strided.specs.declared.Refusal.{Refusal}

-- ---- the four sentences, of the blocks of a model and those fitted

-- "one more on it, with the axes inside it as in the model": the model's blocks up to axis i, one more than the fitted block on it, the fitted
-- blocks on the axes outside it
abbrev pub one_more : List ℕ → List ℕ → ℕ → List ℕ
one_more model fit i = take i model ++ ((get_or fit i 0 + 1) ∷ drop (suc i) fit)

-- the same with the axes outside it as in the model, too
abbrev pub one_more_alone : List ℕ → List ℕ → ℕ → List ℕ
one_more_alone model fit i = set model i (get_or fit i 0 + 1)

-- "No block ever grows"
abbrev pub AtMost : List ℕ → List ℕ → Type 0
AtMost fit model = (i : ℕ) → get_or fit i 0 ≤ get_or model i 0

-- chosen_size i: the size of the chosen operand's stride on axis i
module _ (mc : Machine) (bytes sizes : List ℕ) (rank : ℕ) (chosen_size : ℕ → ℕ) where
  -- an axis "that enters a product and has a nonzero chosen stride"
  pub record Free (i : ℕ) : Type 0 where
    pub within : enters mc bytes sizes rank i ≡ true
    pub moves : 0 < chosen_size i

  -- "axes outside every product or with chosen stride 0"
  abbrev pub Frozen : ℕ → Type 0
  Frozen i = (enters mc bytes sizes rank i ≡ false) ⊎ (chosen_size i ≡ 0)

  -- "the load is at most the live lines, or every axis that enters a product and has a nonzero chosen stride has block 1"
  abbrev pub Achieved : List ℕ → Type 0
  Achieved fit = (load mc bytes sizes rank fit ≤ mc.live) ⊎ ((i : ℕ) → Free i → get_or fit i 0 ≡ 1)

  -- "If fitting shortened an axis, one more on it, with the axes inside it as in the model, exceeds the live lines." The axes outside it are
  -- as fitted, or as in the model: both hold. With the axes inside it as fitted it may fit (Figures)
  pub record Exceeds (model fit : List ℕ) (i : ℕ) : Type 0 where
    pub outside_fitted : mc.live < load mc bytes sizes rank (one_more model fit i)
    pub outside_model : mc.live < load mc bytes sizes rank (one_more_alone model fit i)

  abbrev pub Tight : List ℕ → List ℕ → Type 0
  Tight model fit = (i : ℕ) → get_or fit i 0 < get_or model i 0 → Exceeds model fit i

  -- "blocks on axes outside every product or with chosen stride 0 stay equal to the model's"
  abbrev pub Kept : List ℕ → List ℕ → Type 0
  Kept model fit = (i : ℕ) → Frozen i → get_or fit i 0 ≡ get_or model i 0

  pub record Good (model fit : List ℕ) : Type 0 where
    pub achieved : Achieved fit
    pub tight : Tight model fit
    pub shrinks : AtMost fit model
    pub kept : Kept model fit

-- THE STATEMENT OF THE FIT: for every machine record, whatever its numbers, and all blocks that are at least 1
abbrev pub FitStatement : Type 0
FitStatement =
    (mc : Machine) (bytes sizes : List ℕ) (rank : ℕ) (chosen_size : ℕ → ℕ) (model : List ℕ) → ((i : ℕ) → i < rank → 1 ≤ get_or model i 0)
    → Good mc bytes sizes rank chosen_size model (fitted mc bytes sizes rank chosen_size model)

-- ---- the plans of a copy and of a sum

-- what the fit reads of a plan: its byte strides, and the sizes of operand c's strides
abbrev pub bytes_of : List ℕ → Plan → List ℕ
bytes_of sizes p = byte_table sizes p.strides

abbrev pub chosen_of : ℕ → Plan → ℕ → ℕ
chosen_of c p i = nat_abs (get_or p.strides (c * 64 + i) (pos 0))

-- the blocks that the cutting rule gives
abbrev pub ruled_of : Machine → List ℕ → Plan → List ℕ
ruled_of mc sizes p =
    cutting mc (bytes_of sizes p) (length sizes) (costs p.strides (length sizes) p.rank) (plan_ranks sizes p.strides p.rank) 0 p.rank p.extents

-- "After fitting": when the blocks of a copy are fitted at all. f is the plan of the sum, which has the same axes
pub record Runs (mc : Machine) (es sizes : List ℕ) (f : Plan) : Type 0 where
  -- "exactly two operands"
  pub two : length sizes ≡ 2
  -- not "Total at most 1,024: .. blocks are the full extents."
  pub long : 1024 < total es
  -- not "No cut if rank is 0, the region is at most 32,768, or every operand has size above 0, a nonzero first stride and strictly growing
  -- stride sizes."
  pub axes : 0 < f.rank
  pub wide : mc.cache < region mc (bytes_of sizes f) (length sizes) f.extents 0 f.rank
  pub mixed : every (grows sizes f.strides f.rank) 0 (length sizes) ≡ false
  -- "and tiles were not declined"
  pub tiled : declined mc (bytes_of sizes f) sizes (length sizes) f.extents f.rank (ruled_of mc sizes f) ≡ false

-- two plans that may differ in their blocks alone
pub record SameAxes (p f : Plan) : Type 0 where
  pub rank : p.rank ≡ f.rank
  pub operands : p.operands ≡ f.operands
  pub extents : p.extents ≡ f.extents
  pub strides : p.strides ≡ f.strides

-- the plan of the copy, and that of the sum: its blocks are "the model's"
pub record GoodPlans (mc : Machine) (es sizes : List ℕ) (c : ℕ) (copy model : Plan) : Type 0 where
  pub axes : SameAxes copy model
  -- "After fitting, the load is at most the live lines, or .."
  pub fit : Runs mc es sizes model
      → copy.blocks ≡ fitted mc (bytes_of sizes model) sizes model.rank (chosen_of c model) model.blocks
  pub achieved : Runs mc es sizes model
      → Achieved mc (bytes_of sizes model) sizes model.rank (chosen_of c model) copy.blocks
  -- "If fitting shortened an axis, .."
  pub tight : Tight mc (bytes_of sizes model) sizes model.rank (chosen_of c model) model.blocks copy.blocks
  -- "No block ever grows, and blocks on axes .. stay equal to the model's."
  pub shrinks : AtMost copy.blocks model.blocks
  pub kept : Kept mc (bytes_of sizes model) sizes model.rank (chosen_of c model) model.blocks copy.blocks
  -- where nothing is fitted the two plans are one
  pub same : (Runs mc es sizes model → ⊥) → copy ≡ model

-- what planning answers for the copy, and for the sum: both are refused, for the same, or neither is
abbrev pub GoodAnswers : Machine → List ℕ → List ℕ → ℕ → Result Plan Refusal → Result Plan Refusal → Type 0
GoodAnswers mc es sizes c (Ok copy) (Ok model) = GoodPlans mc es sizes c copy model
GoodAnswers mc es sizes c (Err r) (Err s) = r ≡ s
GoodAnswers mc es sizes c (Ok copy) (Err s) = ⊥
GoodAnswers mc es sizes c (Err r) (Ok model) = ⊥

-- THE STATEMENT: for every machine record and every layout, refused or not, and every chosen operand
abbrev pub Statement : Type 0
Statement =
    (mc : Machine) (es sizes : List ℕ) (ss : List ℤ) (c : ℕ)
    → GoodAnswers mc es sizes c (planned mc es sizes ss (PointwiseInto c)) (planned mc es sizes ss (Fold c))
