-- `export::patch::copy_stretch` meets its contract. Assumes nothing.
use mathlib.Core.Path.{sym, ap, ◌∙◌, subst}
use mathlib.Core.List.{List}
use Prim.Native.Nat.{◌<◌, ◌^◌}
use native.Mathlib.Omega.{arith}
use lib.IntN.{pos}
use lib.ListN.{length, get_or}
use mir.Facts.{to_z-of_z}
use mir.Syntax.{w64}
use mir.Val.{SFits}
use borrow.Author.Rules.{rules}
use Rattle.cells.specs.Copy.{Pair, copied}
use Rattle.strided.specs.declared.Plan.{Plan}
use Rattle.export.specs.Blocks.{InBytes, Stretching, stretch_cells}
use Rattle.export.proofs.Bytes.{bytes_read, read_bytes, into_bytes, from_bytes, into_lies, from_lies, same-cells, cells-apart}
use Rattle.export.proofs.patch.copy_stretch.Goals as goal
use Rattle.export.proofs.patch.copy_stretch.Goals.{After-side_of-from}

-- where the destination's cells lie, and the source's
to_bytes : (c : After-side_of-from) → let a = c.args in InBytes a.width.bytes a.stretch.next.length a.stretch.next.count (get_or a.stretch.first.now 0 (pos 0)) (get_or c.plan.inside.strides.now 0 (pos 0)) (get_or a.stretch.moves.now 0 (pos 0)) c.side_of-to.result
to_bytes c =
    read_bytes (to_z-of_z {w = w64} (let f : SFits w64 (get_or c.args.stretch.first.now 0 (pos 0)) = search rules in f)) (to_z-of_z {w = w64} (let f : SFits w64 (get_or c.plan.inside.strides.now 0 (pos 0)) = search rules in f)) (to_z-of_z {w = w64} (let f : SFits w64 (get_or c.args.stretch.moves.now 0 (pos 0)) = search rules in f))
    c.side_of-to.ensures

source_bytes : (c : After-side_of-from) → let a = c.args in InBytes a.width.bytes a.stretch.next.length a.stretch.next.count (get_or a.stretch.first.now 1 (pos 0)) (get_or c.plan.inside.strides.now 64 (pos 0)) (get_or a.stretch.moves.now 1 (pos 0)) c.side_of-from.result
source_bytes c =
    read_bytes (to_z-of_z {w = w64} (let f : SFits w64 (get_or c.args.stretch.first.now 1 (pos 0)) = search rules in f)) (to_z-of_z {w = w64} (let f : SFits w64 (get_or c.plan.inside.strides.now 64 (pos 0)) = search rules in f)) (to_z-of_z {w = w64} (let f : SFits w64 (get_or c.args.stretch.moves.now 1 (pos 0)) = search rules in f))
    c.side_of-from.ensures

pub side_of-to-requires : goal.side_of-to-requires
side_of-to-requires c =
    let h : Stretching c.args.width.bytes (length c.args.destination.now) (length c.args.source.now) c.args.stretch.next c.plan.inside.strides.now c.args.stretch.moves.now c.args.stretch.first.now =
    subst (λ (q : Plan). Stretching c.args.width.bytes (length c.args.destination.now) (length c.args.source.now) c.args.stretch.next q.strides c.args.stretch.moves.now c.args.stretch.first.now) (sym c.plan.view_is) c.requires in
    let to-short : length c.args.destination.now < 2 ^ 63 = omega arith in
    let from-short : length c.args.source.now < 2 ^ 63 = omega arith in
    bytes_read (to_z-of_z {w = w64} (let f : SFits w64 (get_or c.args.stretch.first.now 0 (pos 0)) = search rules in f)) (to_z-of_z {w = w64} (let f : SFits w64 (get_or c.plan.inside.strides.now 0 (pos 0)) = search rules in f)) (to_z-of_z {w = w64} (let f : SFits w64 (get_or c.args.stretch.moves.now 0 (pos 0)) = search rules in f))
    (into_bytes h c.args.width.some to-short from-short)

pub side_of-from-requires : goal.side_of-from-requires
side_of-from-requires c =
    let h : Stretching c.args.width.bytes (length c.args.destination.now) (length c.args.source.now) c.args.stretch.next c.plan.inside.strides.now c.args.stretch.moves.now c.args.stretch.first.now =
    subst (λ (q : Plan). Stretching c.args.width.bytes (length c.args.destination.now) (length c.args.source.now) c.args.stretch.next q.strides c.args.stretch.moves.now c.args.stretch.first.now) (sym c.plan.view_is) c.requires in
    let to-short : length c.args.destination.now < 2 ^ 63 = omega arith in
    let from-short : length c.args.source.now < 2 ^ 63 = omega arith in
    bytes_read (to_z-of_z {w = w64} (let f : SFits w64 (get_or c.args.stretch.first.now 1 (pos 0)) = search rules in f)) (to_z-of_z {w = w64} (let f : SFits w64 (get_or c.plan.inside.strides.now 64 (pos 0)) = search rules in f)) (to_z-of_z {w = w64} (let f : SFits w64 (get_or c.args.stretch.moves.now 1 (pos 0)) = search rules in f))
    (from_bytes h c.args.width.some to-short from-short)

pub copy_patch-requires : goal.copy_patch-requires
copy_patch-requires c =
    let h : Stretching c.args.width.bytes (length c.args.destination.now) (length c.args.source.now) c.args.stretch.next c.plan.inside.strides.now c.args.stretch.moves.now c.args.stretch.first.now =
    subst (λ (q : Plan). Stretching c.args.width.bytes (length c.args.destination.now) (length c.args.source.now) c.args.stretch.next q.strides c.args.stretch.moves.now c.args.stretch.first.now) (sym c.plan.view_is) c.requires in
    let into = to_bytes (goal.at.copy_patch-requires c).After-side_of-from in
    let out = source_bytes (goal.at.copy_patch-requires c).After-side_of-from in
    let to-short : length c.args.destination.now < 2 ^ 63 = omega arith in
    let from-short : length c.args.source.now < 2 ^ 63 = omega arith in
    record { lies = record { to = into_lies h c.args.width.some to-short from-short into out; from = from_lies h c.args.width.some to-short from-short into out }; apart = cells-apart h c.args.width.some to-short from-short into out }

pub returns : goal.returns
returns c =
    let h : Stretching c.args.width.bytes (length c.args.destination.now) (length c.args.source.now) c.args.stretch.next c.plan.inside.strides.now c.args.stretch.moves.now c.args.stretch.first.now =
    subst (λ (q : Plan). Stretching c.args.width.bytes (length c.args.destination.now) (length c.args.source.now) c.args.stretch.next q.strides c.args.stretch.moves.now c.args.stretch.first.now) (sym c.plan.view_is) c.requires in
    let to-short : length c.args.destination.now < 2 ^ 63 = omega arith in
    let from-short : length c.args.source.now < 2 ^ 63 = omega arith in
    let into = to_bytes (goal.at.returns c).After-side_of-from in
    let out = source_bytes (goal.at.returns c).After-side_of-from in
    c.copy_patch.ensures
    ∙ ap (λ (l : List Pair). copied c.args.width.bytes l c.args.destination.now c.args.source.now) (same-cells h c.args.width.some to-short from-short into out)
    ∙ ap (λ (q : Plan). copied c.args.width.bytes (stretch_cells c.args.width.bytes c.args.stretch.next.length c.args.stretch.next.count q.strides c.args.stretch.moves.now c.args.stretch.first.now) c.args.destination.now c.args.source.now) c.plan.view_is

pub invariant_of-patch : goal.invariant_of-patch
invariant_of-patch c = let h = c.requires in let w = c.args.width in record { narrow = (w.some, w.most); few = (h.cells, h.blocks) }
