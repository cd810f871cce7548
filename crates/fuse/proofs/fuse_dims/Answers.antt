-- `fuse::fuse_dims` meets its contract. The invariant: the places from i - 1 on are fused. Assumes nothing.
use mathlib.Core.Path.{◌≡◌, refl, ◌∙◌, subst}
use mathlib.Core.List.{List}
use Prim.Native.Nat.{ℕ, ◌-◌}
use native.Mathlib.Omega.{arith}
use lib.IntN.{ℤ}
use lib.ListN.{length, get_or, take}
use Rattle.laws.specs.Fuse.Places.{column_by}
use Rattle.fuse.proofs.Fusing.{Done, done_first, turn_left, turn_taken, joined_fits, tests_places, as_many}
use Rattle.fuse.proofs.fuse_dims.Goals as goal

pub loop-i-init : goal.loop-i-init
loop-i-init g c =
    let t = c.args.axes.named in
    -- the strides at each place, and the extents at first
    let col : ℕ → List ℤ = column_by c.args.axes.rows.strides.now c.args.axes.rows.pitch c.args.axes.rows.operands (g.O.Order.names c.args.axes.order) in
    let E : List ℕ = take (length (g.O.Order.names c.args.axes.order)) c.args.extents.now in
    c.requires ∙ done_first col E (c.len-rank.result - 1) (omega (arith, c.len-rank.ensures, as_many t c.args.extents.now (omega arith)))

pub can_fuse-requires : goal.can_fuse-requires
can_fuse-requires g c =
    let i : ℕ = c.loop-i.i - 1 in
    let t = c.args.axes.named in
    -- which axes stand at places i and i - 1
    let outer : c.axis-outer.result ≡ get_or (g.O.Order.names c.args.axes.order) i 0 = c.axis-outer.ensures in
    let inner : c.axis-inner.result ≡ get_or (g.O.Order.names c.args.axes.order) (i - 1) 0 = c.axis-inner.ensures in
    (omega (arith, t.inside (i - 1) (omega (arith, c.len-rank.ensures))), omega (arith, t.inside i (omega (arith, c.len-rank.ensures))))

pub overflow_mul-extents : goal.overflow_mul-extents
overflow_mul-extents g c = record { fits = joined_fits _ c.can_fuse.result _ _ c.can_fuse.ensures c.if-can_fuse.true }

pub loop-i-preserved-then-can_fuse : goal.loop-i-preserved-then-can_fuse
loop-i-preserved-then-can_fuse g c =
    let i : ℕ = c.loop-i.i - 1 in
    let t = c.args.axes.named in
    let col : ℕ → List ℤ = column_by c.args.axes.rows.strides.now c.args.axes.rows.pitch c.args.axes.rows.operands (g.O.Order.names c.args.axes.order) in
    let E : List ℕ = take (length (g.O.Order.names c.args.axes.order)) c.args.extents.now in
    let long : length E ≡ length (g.O.Order.names c.args.axes.order) = as_many t c.args.extents.now (omega arith) in
    let outer : c.axis-outer.result ≡ get_or (g.O.Order.names c.args.axes.order) i 0 = c.axis-outer.ensures in
    let inner : c.axis-inner.result ≡ get_or (g.O.Order.names c.args.axes.order) (i - 1) 0 = c.axis-inner.ensures in
    turn_taken col E i (omega arith) (omega (arith, long)) (omega (arith, long, t.few-axes)) c.loop-i.extents c.loop-i.invariant _ c.can_fuse.result
    (tests_places c.args.axes.rows.strides.now c.args.axes.rows.pitch c.args.axes.rows.operands (g.O.Order.names c.args.axes.order) (i - 1) i _ _ _ _ _ inner outer c.can_fuse.ensures) c.if-can_fuse.true refl

pub loop-i-preserved : goal.loop-i-preserved
loop-i-preserved g c =
    let i : ℕ = c.loop-i.i - 1 in
    let t = c.args.axes.named in
    let col : ℕ → List ℤ = column_by c.args.axes.rows.strides.now c.args.axes.rows.pitch c.args.axes.rows.operands (g.O.Order.names c.args.axes.order) in
    let E : List ℕ = take (length (g.O.Order.names c.args.axes.order)) c.args.extents.now in
    let long : length E ≡ length (g.O.Order.names c.args.axes.order) = as_many t c.args.extents.now (omega arith) in
    let outer : c.axis-outer.result ≡ get_or (g.O.Order.names c.args.axes.order) i 0 = c.axis-outer.ensures in
    let inner : c.axis-inner.result ≡ get_or (g.O.Order.names c.args.axes.order) (i - 1) 0 = c.axis-inner.ensures in
    turn_left col E i (omega arith) (omega (arith, long)) (omega (arith, long, t.few-axes)) c.loop-i.extents c.loop-i.invariant c.loop-i.extents c.can_fuse.result
    (tests_places c.args.axes.rows.strides.now c.args.axes.rows.pitch c.args.axes.rows.operands (g.O.Order.names c.args.axes.order) (i - 1) i _ _ _ _ _ inner outer c.can_fuse.ensures) c.if-can_fuse.false refl

pub returns : goal.returns
returns g c =
    let z : c.loop-i.i - 1 ≡ 0 = omega arith in
    subst (λ (i : ℕ). Done (column_by c.args.axes.rows.strides.now c.args.axes.rows.pitch c.args.axes.rows.operands (g.O.Order.names c.args.axes.order)) (take (length (g.O.Order.names c.args.axes.order)) c.args.extents.now) i c.loop-i.extents) z c.loop-i.invariant
