-- A walk that is lent: its arrays have their whole lengths. Assumes nothing.
use Rattle.std.specs.Prelude.{◌≡◌, length}
use Rattle.strided.specs.declared.Walk.{Walk}

pub record WholeWalk (w : Walk) : Type 0 where
  pub counters-all : length w.counters ≡ 64
  pub offsets_all : length w.offsets ≡ 8
