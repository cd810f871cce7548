-- A step with the state that a lent one leaves, in place of the one it returns.
-- Assumes nothing.
use Rattle.std.specs.Prelude.{Result, Ok, Err}
use Rattle.strided.specs.declared.Walk.{Walk}
use Rattle.strided.specs.declared.Stepped.{Stepped}
use Rattle.strided.specs.declared.Refusal.{Refusal}

abbrev pub with_state : Result Stepped Refusal → Walk → Result Stepped Refusal
with_state (Ok s) w = Ok (record { block = s.block; walk = w })
with_state (Err r) w = Err r
