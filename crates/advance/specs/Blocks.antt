-- What is read off the arrays where a block is handed out: its length, and the strides of axis 0.
-- Assumes nothing.
use Rattle.std.specs.Prelude.{List, cond, ℕ, ◌+◌, ◌-◌, ◌*◌, ltb, eqb, ℤ, pos, ◌+ℤ◌, get_or, replicate}
use Rattle.strided.specs.declared.Plan.{Plan}
use Rattle.advance.specs.Filled.{filled_to}
use Rattle.advance.specs.Carry.{dot_to, start_at}

-- the length of a block: 1 at rank 0, else the block size or what is left of axis 0 from its counter on
unfoldable pub length_by : Plan → ℕ → ℕ → ℕ
length_by p width at =
    let left : ℕ = get_or p.extents 0 0 - at in
    cond (eqb p.rank 0) 1 (cond (ltb width left) width left)

-- that of the block at the counters c
abbrev pub length_of : Plan → List ℕ → List ℕ → ℕ
length_of p w c = length_by p (get_or w 0 0) (get_or c 0 0)

-- operand k's stride on an axis, and these of the first n operands
abbrev pub stride_on : ℕ → List ℤ → ℕ → ℤ
stride_on axis s k = get_or s (k * 64 + axis) (pos 0)

abbrev pub column_to : ℕ → List ℤ → ℕ → List ℤ
column_to axis s n = filled_to (replicate 8 (pos 0)) (stride_on axis s) n

-- the strides of axis 0, if there is one
unfoldable pub firsts_of : Plan → List ℤ
firsts_of p = cond (eqb p.rank 0) (replicate 8 (pos 0)) (column_to 0 p.strides p.operands)

-- the offsets at the counters d, of the first n operands, told from the offsets o at the counters c; those behind are as in o
abbrev pub offset_at : Plan → List ℕ → List ℤ → List ℕ → ℕ → ℤ
offset_at p c o d k = start_at p k c o +ℤ dot_to p.rank k d p.strides

abbrev pub offsets_at : Plan → List ℕ → List ℤ → List ℕ → List ℤ
offsets_at p c o d = filled_to o (offset_at p c o d) p.operands
