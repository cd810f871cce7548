-- `walker::route::Route::leave` meets its contract. Assumes nothing.
use mathlib.Core.Path.{refl}
use native.Mathlib.Nat.{le_refl}
use Rattle.walker.proofs.Going.{on_way}
use Rattle.walker.proofs.Leaving.{shifts_there, tiled_there, roomy_there, left_inside_at, left_tile_at, left-whole-at, home_tile, home-zero, start_same}
use Rattle.walker.proofs.route.Route.leave.Goals as goal

pub shift-requires : goal.shift-requires
shift-requires c =
    let k = c.requires in
    let m = on_way c.args.self.now.leads k.way k.strides in record { few = k.strides.roomy.few; moves = shifts_there m (home_tile m c.if-y.true) }

pub carry-requires : goal.carry-requires
carry-requires c =
    let m = on_way c.args.self.now.leads c.requires.way c.requires.strides in
    let e = home_tile m c.if-y.true in
    record { roomy = roomy_there m e (start_same m) c.shift.ensures; tiled = tiled_there m e (start_same m) c.shift.ensures; last_le_rank = c.args.self.now.single.most }

pub returns-then-carry : goal.returns-then-carry
returns-then-carry c =
    let k = c.requires in
    let m = on_way c.args.self.now.leads k.way k.strides in
    rw c.if-carry.true (left_inside_at m (home_tile m c.if-y.true) (start_same m) c.shift.ensures k.at_end c.args.self.now.single c.if-y.true c.carry.ensures c.if-carry.true)

pub returns-else-carry : goal.returns-else-carry
returns-else-carry c =
    let k = c.requires in
    let a = c.args in
    let m = on_way a.self.now.leads k.way k.strides in
    left_tile_at m (home_tile m c.if-y.true) (start_same m) c.shift.ensures k.at_end a.self.now.single c.if-y.true c.carry.ensures c.if-carry.false c.carry-else-carry.ensures

pub shift-requires-2 : goal.shift-requires-2
shift-requires-2 c =
    let k = c.requires in
    let m = on_way c.args.self.now.leads k.way k.strides in record { few = k.strides.roomy.few; moves = shifts_there m (home-zero m c.if-y.false) }

pub carry-requires-2 : goal.carry-requires-2
carry-requires-2 c =
    let m = on_way c.args.self.now.leads c.requires.way c.requires.strides in
    let e = home-zero m c.if-y.false in
    record {
      roomy = roomy_there m e refl c.shift-2.ensures;
      tiled = tiled_there m e refl c.shift-2.ensures;
      last_le_rank = le_refl c.args.self.now.tiles.rank;
    }

pub returns : goal.returns
returns c =
    let k = c.requires in
    let m = on_way c.args.self.now.leads k.way k.strides in
    left-whole-at m (home-zero m c.if-y.false) refl c.shift-2.ensures k.at_end c.if-y.false c.carry-2.ensures
