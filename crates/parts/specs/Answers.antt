-- What a C function of a part answers: the refusal's number or 0, and the lent memory.
-- Assumes nothing.
use Rattle.std.specs.Prelude.{◌≡◌, List, ℕ, ℤ, length, Option, None, Some}
use Rattle.strided.specs.Fuse.{plan_axes}
use Rattle.strided.specs.Costs.{costs}
use Rattle.strided.specs.Plan.{stride_table}
use Rattle.strided.specs.Refusals.{number, refused_by, count_rows}
use Rattle.strided.specs.declared.Purpose.{Purpose}
use Rattle.strided.specs.declared.Refusal.{Refusal}

-- the parts are there for every layout whose counts are right: they are refused by rows 1 to 4 alone
abbrev pub counts_refused : List ℕ → List ℕ → List ℤ → Purpose → Option Refusal
counts_refused es sizes ss u = refused_by (count_rows es sizes ss u)

-- the refusal's number, or 0
abbrev pub told : Option Refusal → ℕ
told None = 0
told (Some r) = number r

-- lent memory that held `old`: the part, or on a refusal what it held
abbrev pub kept : {A : Type 0} → Option Refusal → A → A → A
kept None part old = part
kept (Some r) part old = old

pub record Part {A : Type 0} (refused : Option Refusal) (part old new : A) (r : ℕ) : Type 0 where
  pub answer : r ≡ told refused
  pub memory : new ≡ kept refused part old

-- the costs of the plan's axes
abbrev pub plan_costs : List ℕ → ℕ → List ℤ → Purpose → List ℕ
plan_costs es operands ss u = let axs = plan_axes es operands ss u in costs (stride_table axs operands) operands (length axs)
