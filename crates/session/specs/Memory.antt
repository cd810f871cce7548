-- The numbers of a session as a C program lends them: each in an array of its own, the record's four in one, the plan's rank and operands in
-- one. Assumes nothing.
use Rattle.std.specs.Prelude.{List, ℕ, get_or}
use Rattle.strided.specs.Machine.{machine_of}
use Rattle.session.specs.declared.Numbers.{Numbers}

abbrev pub numbers_at : List ℕ → List ℕ → List ℕ → List ℕ → List ℕ → List ℕ → Numbers
numbers_at purpose chosen machine rank operands plan =
    record {
      purpose = get_or purpose 0 0;
      chosen = get_or chosen 0 0;
      machine = machine_of (get_or machine 0 0) (get_or machine 1 0) (get_or machine 2 0) (get_or machine 3 0);
      rank = get_or rank 0 0;
      operands = get_or operands 0 0;
      plan_rank = get_or plan 0 0;
      plan_operands = get_or plan 1 0;
    }
