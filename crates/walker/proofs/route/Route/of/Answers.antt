-- `walker::route::Route::of` meets its contract. Assumes nothing.
use Rattle.walker.proofs.Leading.{leads_axes}
use Rattle.walker.proofs.route.Route.of.Goals as goal

pub invariant_of-result : goal.invariant_of-result
invariant_of-result c = record { single = c.inner_axes.ensures; leads = leads_axes c.way_of.ensures }
