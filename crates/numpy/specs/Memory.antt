-- What the C functions answer and leave in lent memory: a description as numbers and arrays, as strided's Memory has other values.
-- Assumes nothing.
use Rattle.std.specs.Prelude.{List, [], ◌∷◌, ℕ, ℤ, Result}
use Rattle.strided.specs.Memory.{Handed}
use Rattle.strided.specs.declared.Refusal.{Refusal}
use Rattle.numpy.specs.Numpy.{FromNumpy}
use Rattle.numpy.specs.declared.Described.{Described}

pub record DescribedMemory : Type 0 where
  pub size : List ℕ
  pub rank : List ℕ
  pub extents : List ℕ
  pub strides : List ℤ

abbrev pub described_at : List ℕ → List ℕ → List ℕ → List ℤ → DescribedMemory
described_at size rank extents strides = record { size = size; rank = rank; extents = extents; strides = strides }

abbrev pub described_memory : Described → DescribedMemory
described_memory d = described_at (d.size ∷ []) (d.rank ∷ []) d.extents d.strides

-- the function answers r, and lent memory that held `old` holds `new`: there is what the text says, which the text fixes
pub record FromNumpyMemory (text : List ℕ) (old new : DescribedMemory) (r : ℤ) : Type 0 where
  pub says : Result Described Refusal
  pub from : FromNumpy text says
  pub handed : Handed described_memory says old new r
