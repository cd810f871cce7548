-- `cells::packed::copy_down` meets its contract. Assumes nothing.
use mathlib.Core.Path.{◌≡◌, sym, ap, ◌∙◌, subst}
use native.Mathlib.Omega.{arith}
use lib.ListN.{length}
use Rattle.cells.specs.declared.Side.{Side}
use Rattle.cells.specs.Copy.{copied}
use Rattle.cells.specs.Patch.{patch_cells}
use Rattle.cells.specs.Reaching.{PatchIn, turned}
use Rattle.cells.proofs.Patching.{patch_cell}
use Rattle.cells.proofs.Lying.{lies_in, lies_both}
use Rattle.cells.proofs.Turning.{turned_lies, turned-copied}
use Rattle.cells.proofs.packed.copy_down.Goals as goal

pub upwards-to-requires : goal.upwards-to-requires
upwards-to-requires c =
    let a = c.args in
    let h = c.requires.packed.cells in
    let l = c.well_formed.0.1 in
    let m = c.well_formed.1.0.1 in
    let w = a.patch.narrow.1 in
    let r = lies_both a.patch a.destination.now a.source.now c.requires.lies (omega (arith, l)) (omega (arith, m)) in record { n0_nonzero = (h, omega (arith, w)); reaches = (patch_cell _ _ _ _ _ _ _ r.to (omega (arith, h)) c.requires.packed.runs).reaches }

pub upwards-from-requires : goal.upwards-from-requires
upwards-from-requires c =
    let a = c.args in
    let h = c.requires.packed.cells in
    let l = c.well_formed.0.1 in
    let m = c.well_formed.1.0.1 in
    let w = a.patch.narrow.1 in
    let r = lies_both a.patch a.destination.now a.source.now c.requires.lies (omega (arith, l)) (omega (arith, m)) in record { n0_nonzero = (h, omega (arith, w)); reaches = (patch_cell _ _ _ _ _ _ _ r.from (omega (arith, h)) c.requires.packed.runs).reaches }

pub copy_packed-requires : goal.copy_packed-requires
copy_packed-requires c =
    let up_is : c.upwards-to.result ≡ turned c.args.patch.n0 c.args.patch.width c.args.patch.to = c.upwards-to.ensures in
    let back_is : c.upwards-from.result ≡ turned c.args.patch.n0 c.args.patch.width c.args.patch.from = c.upwards-from.ensures in
    -- and the sides that are turned lie in their buffers
    let up_in : PatchIn c.args.patch.width (length c.args.destination.now) c.args.patch.n0 c.args.patch.n1 (turned c.args.patch.n0 c.args.patch.width c.args.patch.to) = let a = c.args in
    let g = c.well_formed.0.1 in
    lies_in a.patch.width (length a.destination.now) a.patch.n0 a.patch.n1 (turned a.patch.n0 a.patch.width a.patch.to)
    (turned_lies a.patch.width (length a.destination.now) a.patch.n0 a.patch.n1 a.patch.to c.requires.lies.to c.requires.packed.cells c.requires.packed.runs c.requires.packed.to)
    (omega (arith, g)) c.args.patch.few.0 c.args.patch.few.1 in
    let back_in : PatchIn c.args.patch.width (length c.args.source.now) c.args.patch.n0 c.args.patch.n1 (turned c.args.patch.n0 c.args.patch.width c.args.patch.from) = let a = c.args in
    let g = c.well_formed.1.0.1 in
    lies_in a.patch.width (length a.source.now) a.patch.n0 a.patch.n1 (turned a.patch.n0 a.patch.width a.patch.from)
    (turned_lies a.patch.width (length a.source.now) a.patch.n0 a.patch.n1 a.patch.from c.requires.lies.from c.requires.packed.cells c.requires.packed.runs c.requires.packed.from)
    (omega (arith, g)) c.args.patch.few.0 c.args.patch.few.1 in
    let a = c.args in record { packed = record { cells = c.requires.packed.cells; runs = c.requires.packed.runs; to = ap (λ (o : Side). o.step0) up_is; from = ap (λ (o : Side). o.step0) back_is }; reach = record { to = subst (PatchIn a.patch.width (length a.destination.now) a.patch.n0 a.patch.n1) (sym up_is) up_in; from = subst (PatchIn a.patch.width (length a.source.now) a.patch.n0 a.patch.n1) (sym back_is) back_in } }

pub returns : goal.returns
returns c =
    let up_is : c.upwards-to.result ≡ turned c.args.patch.n0 c.args.patch.width c.args.patch.to = c.upwards-to.ensures in
    let back_is : c.upwards-from.result ≡ turned c.args.patch.n0 c.args.patch.width c.args.patch.from = c.upwards-from.ensures in
    let m = c.copy_packed in
    let a = c.args in
    let e : m.new.destination ≡ copied a.patch.width (patch_cells a.patch.n0 a.patch.n1 c.upwards-to.result c.upwards-from.result) a.destination.now a.source.now = m.ensures in
    e
    ∙ (λ i. copied a.patch.width (patch_cells a.patch.n0 a.patch.n1 (up_is i) (back_is i)) a.destination.now a.source.now)
    ∙ turned-copied a.patch.width a.patch.n0 a.patch.n1 a.patch.to a.patch.from a.destination.now a.source.now
    c.requires.lies.to c.requires.lies.from c.requires.packed.cells c.requires.packed.runs c.requires.packed.to c.requires.packed.from c.requires.apart
