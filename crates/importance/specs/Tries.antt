-- What a try gives, and what its first operands add to the weights, read off the struct.
-- Assumes nothing.
use Rattle.std.specs.Prelude.{List, ℕ, Option}
use Rattle.strided.specs.Weights.{try}
use Rattle.importance.specs.Tried.{Partly}
use Rattle.importance.specs.declared.Try.{Try}

abbrev pub tried : Try → Option (List ℕ)
tried t = try t.ranked.layout.extents.now t.ranked.layout.operands t.ranked.layout.strides.now t.ranked.lead t.width t.cap

-- an array that holds what the first k operands add
abbrev pub Added : Try → ℕ → List ℕ → Type 0
Added t = Partly t.ranked.layout.extents.now t.ranked.layout.operands t.ranked.layout.strides.now t.ranked.lead t.width t.cap
