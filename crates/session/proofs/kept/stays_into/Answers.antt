-- `session::kept::stays_into` meets its contract. Assumes nothing.
use mathlib.Core.Path.{◌≡◌, refl, ap, ◌∙◌, subst}
use Prim.Native.Nat.{ℕ, ◌≤◌, ◌<◌}
use native.Mathlib.Omega.{arith}
use lib.ListN.{length, take}
use lib.Seq.{get_or-take, length-take-le}
use Rattle.strided.specs.Base.{padded}
use Rattle.strided.specs.Layout.{extents}
use Rattle.strided.specs.Plan.{stride_table}
use Rattle.laws.specs.Base.Arrays.{length-padded}
use Rattle.fuse.specs.Kept.{stays}
use Rattle.fuse.proofs.Keeping.{Stand, stand_count, stand_inside, stand_rank, stand_extents, stand_strides}
use Rattle.fuse.proofs.Planning.{zeros_behind, made_long, as_planned}
use Rattle.session.proofs.kept.stays_into.Goals as goal

-- the number of an axis is a byte
below-256 : {x n : ℕ} → x < n → n ≤ 64 → x < 256
below-256 h k = omega arith

pub fused_into-requires : goal.fused_into-requires
fused_into-requires g c =
    let l = c.args.layout in
    let t = c.requires.order in
    record { order = t; out = zeros_behind (length (g.O.Order.names c.args.order)) (omega (arith, t.all, l.fits.rank-few)) }

pub kept_axes_into-requires : goal.kept_axes_into-requires
kept_axes_into-requires g c =
    let l = c.args.layout in
    let t = c.requires.order in
    let long = made_long l.extents.now l.fits t {rs = l.strides.now} refl refl refl c.fused_into.ensures c.len.ensures in
    record { arrays = (long, omega (arith, long, t.all, l.fits.rank-few)); inside = (λ j h. below-256 (t.inside j (omega (arith, long, t.all))) l.fits.rank-few); zeros = c.requires.zeros }

pub returns : goal.returns
returns g c =
    let l = c.args.layout in
    let es = l.extents.now in
    let ss = l.strides.now in
    let m = l.operands in
    let t = c.requires.order in
    let made = c.fused_into.ensures in
    let all = c.len.ensures in
    let k = c.kept_axes_into in
    let O = g.O.Order.names c.args.order in
    let F = take c.len.result c.fused_into.new.fused in
    let long = made_long es l.fits t {rs = ss} refl refl refl made all in
    let few : length F ≤ 64 = omega (arith, long, t.all, l.fits.rank-few) in
    let w : Stand F O (stays F) k.new.extents k.new.axes k.result = (k.ensures.count, (k.ensures.extents, k.ensures.axes)) in
    let count : k.result ≤ 64 = stand_count ss (length es) m O F few w in
    let places : length k.new.axes ≡ 64 = ap length k.ensures.axes ∙ length-padded 0 64 _ in
    let taken : length (take k.result k.new.axes) ≡ k.result = length-take-le k.result k.new.axes (omega (arith, count, places)) in
    record {
      count = as_planned es l.fits t refl refl refl made all (λ xs n. length xs) (stand_rank ss (length es) m O F few w);
      few = count;
      extents = as_planned es l.fits t refl refl refl made all (λ xs n. padded 64 0 (extents xs)) (stand_extents ss (length es) m O F few w);
      places = places;
      inside = λ j h. subst (λ (x : ℕ). x < length es) (get_or-take k.result k.new.axes j 0 h)
          (stand_inside ss (length es) m O F few w (λ i g. t.inside i (omega (arith, long, t.all))) j (omega (arith, taken)));
      strides = as_planned es l.fits t refl refl refl made all stride_table (stand_strides ss (length es) m O F few w refl);
    }
