-- `session::check::kept_right` meets its contract. Assumes nothing.
use Rattle.session.specs.Made.{numbers_of}
use Rattle.session.proofs.Holding.{decides_as, decides_not, keeps_axes, keeps_blocks, keeps_of}
use Rattle.session.proofs.check.kept_right.Goals as goal

pub axes_right-requires : goal.axes_right-requires
axes_right-requires c = c.weights_right.ensures.yes c.if-weights_right.true

pub blocks_right-requires : goal.blocks_right-requires
blocks_right-requires c = c.axes_right.ensures.yes c.if-axes_right.true

pub returns-then-axes_right : goal.returns-then-axes_right
returns-then-axes_right c =
    let s = c.args.ranked.right.session.now in
    let l = c.args.ranked.right.right in
    decides_as c.blocks_right.ensures
    (λ b. keeps_of s l (c.axes_right.ensures.yes c.if-axes_right.true) b)
    (λ k. keeps_blocks (numbers_of s) s.extents s.sizes s.strides l k)

pub returns-else-axes_right : goal.returns-else-axes_right
returns-else-axes_right c =
    let s = c.args.ranked.right.session.now in
    rw c.if-axes_right.false (decides_not (λ k. c.axes_right.ensures.no c.if-axes_right.false (keeps_axes (numbers_of s) s.extents s.sizes s.strides c.args.ranked.right.right k)))

pub returns-else-weights_right : goal.returns-else-weights_right
returns-else-weights_right c =
    let s = c.args.ranked.right.session.now in
    rw c.if-weights_right.false (decides_not (λ k. c.weights_right.ensures.no c.if-weights_right.false (keeps_axes (numbers_of s) s.extents s.sizes s.strides c.args.ranked.right.right k).1.weights))
