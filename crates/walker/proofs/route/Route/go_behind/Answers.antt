-- `walker::route::Route::go_behind` meets its contract. Assumes nothing.
use borrow.Author.Rules.{rules}
use mathlib.Core.Path.{subst}
use Prim.Native.Nat.{ℕ, ◌^◌, ◌<◌}
use Rattle.walker.proofs.Going.{on_way, left_asks, may_go, gone_on, last_less, left_above, end_below, at_end, limit_less, gone_last, passed_short, passed_all}
use Rattle.walker.proofs.route.Route.go_behind.Goals as goal

pub place-place-requires : goal.place-place-requires
place-place-requires c = record { axis_bound = c.in-Some.y.small; standing = left_asks (on_way c.args.self.now.leads c.in-Some.is c.requires.strides) }

pub go_steps-requires : goal.go_steps-requires
go_steps-requires c =
    let m = on_way c.args.self.now.leads c.in-Some.is c.requires.strides in
    let f : c.place-place.result.extent < 2 ^ 64 = search rules in
    record {
      few = c.requires.strides.roomy.few;
      may_go = may_go m _ (limit_less m (rw c.in-Some.is at c.requires.left_value) _ c.if-limit-left.true) (subst (λ (n : ℕ). n < 2 ^ 64) c.place-place.ensures.extent f);
    }

pub returns-then-limit-left : goal.returns-then-limit-left
returns-then-limit-left c =
    rw c.in-Some.is (passed_short (on_way c.args.self.now.leads c.in-Some.is c.requires.strides) (rw c.in-Some.is at c.requires.left_value) _ c.if-limit-left.true c.go_steps.ensures)

pub ends_axis-requires : goal.ends_axis-requires
ends_axis-requires c =
    let m = on_way c.args.self.now.leads c.in-Some.is c.requires.strides in
    let v = rw c.in-Some.is at c.requires.left_value in
    rw (c.place-place.ensures.here, c.place-place.ensures.extent) (left_above m v, end_below m v)

pub leave-requires : goal.leave-requires
leave-requires c =
    let m = on_way c.args.self.now.leads c.in-Some.is c.requires.strides in record {
      strides = c.requires.strides;
      way = c.in-Some.is;
      at_end = at_end m (rw c.in-Some.is at c.requires.left_value) (rw (c.place-place.ensures.here, c.place-place.ensures.extent) at (c.ends_axis.ensures c.if-ends_axis.true));
    }

pub returns-then-ends_axis : goal.returns-then-ends_axis
returns-then-ends_axis c =
    rw c.in-Some.is (passed_all (on_way c.args.self.now.leads c.in-Some.is c.requires.strides) (rw c.in-Some.is at c.requires.left_value) _ c.if-limit-left.false c.leave.ensures)

pub overflow_sub-left : goal.overflow_sub-left
overflow_sub-left c = left_above (on_way c.args.self.now.leads c.in-Some.is c.requires.strides) (rw c.in-Some.is at c.requires.left_value)

pub go_steps-requires-2 : goal.go_steps-requires-2
go_steps-requires-2 c =
    let m = on_way c.args.self.now.leads c.in-Some.is c.requires.strides in
    let f : c.place-place.result.extent < 2 ^ 64 = search rules in
    record {
      few = c.requires.strides.roomy.few;
      may_go = may_go m _ (last_less m (rw c.in-Some.is at c.requires.left_value)) (subst (λ (n : ℕ). n < 2 ^ 64) c.place-place.ensures.extent f);
    }

pub advance-requires-2 : goal.advance-requires-2
advance-requires-2 c =
    let m = on_way c.args.self.now.leads c.in-Some.is c.requires.strides in
    let g = gone_on m _ (last_less m (rw c.in-Some.is at c.requires.left_value)) c.go_steps-2.ensures in record { roomy = g.roomy; tiled = g.tiled; single = c.args.self.now.single }

pub returns : goal.returns
returns c =
    let m = on_way c.args.self.now.leads c.in-Some.is c.requires.strides in
    let v = rw c.in-Some.is at c.requires.left_value in
    rw c.in-Some.is (passed_all m v _ c.if-limit-left.false (gone_last m v c.go_steps-2.ensures c.advance-2.ensures))
