-- What a step leaves in lent memory where it hands out a block, and where it is refused; and a state read back from there. Assumes nothing.
use mathlib.Core.Path.{◌≡◌, refl, ap, ◌∙◌}
use mathlib.Core.Bool.{Bool, true, false}
use mathlib.Core.List.{[], ◌∷◌}
use Prim.Native.Nat.{ℕ}
use Rattle.std.specs.Prelude.{Some, Result, Ok, Err}
use Rattle.strided.specs.Memory.{flag, is_set, some_block, step_leaves, StepMemory, step_memory, walk_at, walk_in}
use Rattle.strided.specs.declared.Refusal.{Refusal}
use Rattle.strided.specs.declared.Block.{Block}
use Rattle.strided.specs.declared.Walk.{Walk}
use Rattle.strided.specs.declared.Stepped.{Stepped}
use Rattle.walk.specs.Lent.{SteppedInto}

pub stepped_some : {b : Block} {w : Walk} {s : Result Stepped Refusal} {old new : StepMemory} → ◌≡◌ {A = Result Stepped Refusal} (Ok (record { block = Some b; walk = w })) s → new ≡ step_memory w b → SteppedInto s old new (Ok true)
stepped_some {old = old} e f = record { said = ap some_block e; memory = f ∙ ap (λ (s : Result Stepped Refusal). step_leaves s old) e }

pub stepped_refused : {r : Refusal} {s : Result Stepped Refusal} {old : StepMemory} → Err r ≡ s → SteppedInto s old old (Err r)
stepped_refused {old = old} e = record { said = ap some_block e; memory = ap (λ (s : Result Stepped Refusal). step_leaves s old) e }

-- ---- a state that lies in memory is read back

pub flag_back : (b : Bool) → is_set (flag b) ≡ b
flag_back true = refl
flag_back false = refl

pub lent_walk : (w : Walk) {x : ℕ} → x ≡ flag w.ended → walk_in (walk_at (x ∷ []) w.counters w.offsets) ≡ w
lent_walk w e = λ i. record { ended = (ap is_set e ∙ flag_back w.ended) i; counters = w.counters; offsets = w.offsets }
