-- `export::packed::plain_cells` meets its contract. Assumes nothing.
use mathlib.Core.Path.{sym, ◌∙◌, subst}
use Prim.Native.Nat.{ℕ, ◌/◌}
use lib.IntN.{ℤ, pos}
use lib.ListN.{get_or}
use Rattle.strided.specs.Layout.{NoZero}
use Rattle.laws.specs.Refusals.Zeros.{no_zero_of, total_some}
use mir.Facts.{to_z-of_z}
use mir.Syntax.{w64}
use mir.Val.{SFits}
use borrow.Author.Rules.{rules}
use Rattle.export.proofs.Tests.{served_accepted}
use Rattle.export.specs.Rows.{Sized, sizes_good}
use Rattle.export.specs.Packed.{Room}
use Rattle.export.proofs.packed.plain_cells.Goals as goal

pub gapless-requires : goal.gapless-requires
gapless-requires c =
    -- no extent is 0
    let no_zero : NoZero c.args.asked.layout.extents.now = no_zero_of c.args.asked.layout.extents.now (sym c.has_zero.ensures ∙ c.if-has_zero.false) in
    let good : Sized c.args.asked.sizes.now = sizes_good c.args.asked.sizes.now c.in_ok-width.ensures.0 in (
      total_some c.args.asked.layout.extents.now no_zero,
      good.two,
    )

pub returns : goal.returns
returns c =
    let no_zero : NoZero c.args.asked.layout.extents.now = no_zero_of c.args.asked.layout.extents.now (sym c.has_zero.ensures ∙ c.if-has_zero.false) in
    let found = c.in_ok-width.ensures in
    let good : Sized c.args.asked.sizes.now = sizes_good c.args.asked.sizes.now found.0 in
    let a = c.args in
    let r : ℕ = c.in_ok-count.count in (
      found.1,
      record {
        some = no_zero;
        strides = (served_accepted _ _ _ _ _ a.asked.served).strides;
        starts = c.if-asked-ne2.false ∙ sym good.two;
        gapless = c.in_ok-count.ensures;
        sixteen = found.0;
        into = subst (λ (n : ℕ). Room (get_or a.asked.starts.now 0 (pos 0)) r (a.to / n)) found.1 (subst (λ (z : ℤ). Room z r (a.to / c.in_ok-width.width.bytes)) (to_z-of_z {w = w64} (let f : SFits w64 (get_or a.asked.starts.now 0 (pos 0)) = search rules in f)) (c.beyond.ensures c.if-beyond.false));
        out = subst (λ (n : ℕ). Room (get_or a.asked.starts.now 1 (pos 0)) r (a.from / n)) (found.1 ∙ good.same) (subst (λ (z : ℤ). Room z r (a.from / c.in_ok-width.width.bytes)) (to_z-of_z {w = w64} (let f : SFits w64 (get_or a.asked.starts.now 1 (pos 0)) = search rules in f)) (c.beyond-else-beyond.ensures c.if-beyond-2.false));
        into_fits = c.requires.0;
        out_fits = c.requires.1;
      },
    )
