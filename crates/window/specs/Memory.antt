-- A window in the memory that a C function is lent: its extents, its strides and its shifts. What is answered, and what a refusal keeps, is as
-- strided's Memory has it. Assumes nothing.
use Rattle.std.specs.Prelude.{List, ℕ, ℤ, Result}
use Rattle.strided.specs.Memory.{Handed}
use Rattle.strided.specs.declared.Refusal.{Refusal}
use Rattle.window.specs.declared.Windowed.{Windowed}

pub record WindowMemory : Type 0 where
  pub extents : List ℕ
  pub strides : List ℤ
  pub shifts : List ℤ

abbrev pub window_memory : Windowed → WindowMemory
window_memory w = record { extents = w.extents; strides = w.strides; shifts = w.shifts }

-- the function answers r, and lent memory that held `old` holds `new`
abbrev pub Windows : Result Windowed Refusal → WindowMemory → WindowMemory → ℤ → Type 0
Windows w old new r = Handed window_memory w old new r
