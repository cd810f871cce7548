-- `window::shifts::term` meets its contract. Assumes nothing.
use Prim.Native.Nat.{◌^◌, ◌<◌}
use lib.IntN.{pos, ◌*ℤ◌}
use mir.Syntax.{w64}
use mir.Facts.{to_z_pos}
use Rattle.laws.specs.Base.Signs.{back, size_some}
use Rattle.window.proofs.Sums.{term_fits_lem, first_small}
use Rattle.window.proofs.shifts.term.Goals as goal

pub returns : goal.returns
returns c =
    let small : c.args.first < 2 ^ 63 = first_small c.args.first c.args.stride c.requires (size_some c.args.stride c.ranges.stride c.if-stride-eq0.false) in
    rw (back c.args.stride c.ranges.stride, to_z_pos w64 small)
    (back (pos c.args.first *ℤ c.args.stride) (term_fits_lem c.args.first c.args.stride c.requires))
