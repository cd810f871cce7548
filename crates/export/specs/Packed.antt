-- CELLS WITHOUT GAPS: each stride is the product of the extents before its axis. What holds of them is in proofs/Plains.
use Rattle.std.specs.Prelude.{◌≡◌, ℕ, ◌+◌, ◌*◌, ◌/◌, ◌^◌, ◌≤◌, ◌<◌, T, false, ℤ, pos, nat_abs, length}
use mathlib.Core.List.{List, [], ◌∷◌}
use Rattle.std.proofs.Math.ListN.{get_or}
use Rattle.std.specs.Int.Signed.{non_neg}
use Rattle.strided.specs.Layout.{stride_row, total, NoZero}
use Rattle.export.specs.Export.{row16}

-- the strides of cells without gaps, n apart on the first axis
abbrev pub packed_from : ℕ → List ℕ → List ℤ
packed_from n [] = []
packed_from n (e ∷ es) = pos n ∷ packed_from (n * e) es

-- two operands lie so, and have r cells each
pub record Gapless (es : List ℕ) (ss : List ℤ) (r : ℕ) : Type 0 where
  pub cells : r ≡ total es
  pub to : stride_row ss (length es) 0 ≡ packed_from 1 es
  pub from : stride_row ss (length es) 1 ≡ packed_from 1 es

-- n cells from the offset z on are among m
pub record Room (z : ℤ) (n m : ℕ) : Type 0 where
  pub from : T (non_neg z)
  pub to : nat_abs z + n ≤ m

-- and their cells lie in their buffers: what the code asks of a copy that is one move
pub record Plain (es sizes : List ℕ) (ss zs : List ℤ) (to from r : ℕ) : Type 0 where
  pub some : NoZero es
  pub strides : length ss ≡ length es * length sizes
  pub starts : length zs ≡ length sizes
  pub gapless : Gapless es ss r
  pub sixteen : (row16 sizes).applies ≡ false
  pub into : Room (get_or zs 0 (pos 0)) r (to / get_or sizes 0 0)
  pub out : Room (get_or zs 1 (pos 0)) r (from / get_or sizes 1 0)
  pub into_fits : to < 2 ^ 63
  pub out_fits : from < 2 ^ 63
