-- `joining::moves::lay_operands` meets its contract. Assumes nothing.
use mathlib.Core.Path.{refl, ap, ◌∙◌, subst}
use Prim.Native.Nat.{ℕ}
use native.Mathlib.Omega.{arith}
use lib.ListN.{length}
use Rattle.layout.specs.Fitting.{Fitting}
use Rattle.session.proofs.Tabling.{table_even, table_of}
use Rattle.joining.proofs.moves.lay_operands.Goals as goal

pub ranks_into-requires : goal.ranks_into-requires
ranks_into-requires c =
    let l = c.args.layout in
    record { operands_bound = omega (arith, c.requires.operands, l.fits.operands_few); even = table_even l.strides.now (length l.extents.now) l.operands l.fits.rank-few _ c.rank_table_into.ensures; out_value = refl }

pub returns : goal.returns
returns c =
    let l = c.args.layout in
    let rank = length l.extents.now in
    record {
      fits = subst (λ (m : ℕ). Fitting l.strides.now rank m) c.requires.operands l.fits;
      sizes = c.lay_into.ensures;
      strides = c.put_strides.ensures;
      rows = record { is = c.rank_table_into.ensures ∙ ap (table_of l.strides.now rank) c.requires.operands };
      ranks = c.ranks_into.ensures;
    }
