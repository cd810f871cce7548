-- `session::check::unlike` meets its contract. Assumes nothing.
use mathlib.Core.Path.{◌≡◌, ap, ◌∙◌}
use Prim.Native.Nat.{ℕ}
use mir.Syntax.{w64}
use mir.Val.{SFits, of_z}
use lib.Bits.{bit_xor}
use lib.Dec.{eqb}
use Rattle.std.proofs.Common.{rules}
use Rattle.std.proofs.Math.Facts.{Fits-xor, Fits-of_z, of_z-to_z}
use Rattle.fuse.proofs.Joining.{eqb_bits}
use Rattle.session.proofs.Comparing.{xor_none}
use Rattle.session.proofs.check.unlike.Goals as goal

pub returns : goal.returns
returns c =
    let a = c.args.a in
    let b = c.args.b in
    let fa : SFits w64 a = search rules in
    let fb : SFits w64 b = search rules in
    let is : c.cast_unsigned.result ≡ bit_xor (of_z w64 a) (of_z w64 b) = c.cast_unsigned.ensures ∙ of_z-to_z {w = w64} (Fits-xor (Fits-of_z {z = a} fa) (Fits-of_z {z = b} fb)) in
    ap (λ (x : ℕ). eqb x 0) is ∙ xor_none (of_z w64 a) (of_z w64 b) ∙ eqb_bits a b fa fb
