-- `walker::route::Route::hop` meets its contract. Assumes nothing.
use Rattle.walker.proofs.Leaving.{hopped}
use Rattle.walker.proofs.Going.{on_way}
use borrow.Author.Tests.{not-false}
use Rattle.walker.proofs.route.Route.hop.Goals as goal

pub returns : goal.returns
returns c =
    let x = c.args.self.now in
    let k = c.requires in
    rw c.in-Some.is
    (hopped (on_way x.leads c.in-Some.is k.strides) x.single (rw c.in-Some.is at k.left_value) (not-false _ c.if-not-y.false) c.if-limit-left.false c.if-at-axis.false c.if-self-axis.false c.go_ahead.ensures)
