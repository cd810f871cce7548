-- `gougelily::many::gougelily_step_many` meets its contract. Assumes nothing.
use borrow.Author.Rules.{rules}
use Rattle.std.proofs.Common.{◌≡◌, sym, ◌∙◌, refl, ap, List, ℕ, ◌≤◌, length, pos, subst}
use mir.Facts.{to_z_pos}
use mir.Syntax.{w64}
use mir.Val.{SFits}
use Rattle.std.specs.Prelude.{Option, Some, Result, Ok}
use Rattle.strided.specs.Bulk.{stepped_many}
use lib.IntN.{ℤ}
use Rattle.strided.specs.Memory.{plan_of, walk_at, walk_in, ManyMemory, many_at}
use Rattle.strided.specs.declared.Plan.{Plan}
use Rattle.strided.specs.declared.Walk.{Walk}
use Rattle.strided.specs.declared.Refusal.{Refusal}
use Rattle.laws.specs.Refusals.Rows.{served_is}
use Rattle.walk.proofs.Stepping.{lent_refused}
use Rattle.bulk.specs.Blocks.{SteppedManyInto}
use Rattle.bulk.proofs.Ways.{refused-many}
use Rattle.gougelily.proofs.Answers.{many-count, steps_many, read_code}
use Rattle.gougelily.proofs.many.gougelily_step_many.Goals as goal
use Rattle.gougelily.proofs.many.gougelily_step_many.Goals.{After-step_many_into}

-- many steps on the plan p are those on q
stepped_as : {p q : Plan} (w : Walk) (ls : List ℕ) (os : List ℤ) {old new : ManyMemory} {answer : Result (Option ℕ) Refusal} → SteppedManyInto (stepped_many p w ls os) old new answer → p ≡ q
    → SteppedManyInto (stepped_many q w ls os) old new answer
stepped_as w ls os {old} {new} {answer} l e = subst (λ (p : Plan). SteppedManyInto (stepped_many p w ls os) old new answer) e l

-- what is written on the plan that is lent is written on the plan
makes : (c : After-step_many_into) {answer : Result (Option ℕ) Refusal} → c.step_many_into.result ≡ answer → let a = c.args in
    let n = c.step_many_into.new in
    SteppedManyInto (stepped_many (plan_of a.rank a.operands a.extents.now a.blocks.now a.strides.now) (walk_in (walk_at a.ended.now a.counters.now a.offsets.now)) a.block_lengths.now a.block_offsets.now)
    (many_at (walk_at a.ended.now a.counters.now a.offsets.now) a.block_lengths.now a.block_offsets.now)
    (many_at (walk_at n.ended n.counters n.offsets) n.lengths n.block_offsets)
    answer
makes c h =
    let a = c.args in
    stepped_as (walk_in (walk_at a.ended.now a.counters.now a.offsets.now)) a.block_lengths.now a.block_offsets.now (subst (SteppedManyInto _ _ _) h c.step_many_into.ensures) (served_is _ _ (sym c.of.ensures ∙ c.in-Ok.is))

-- so many blocks are a number of C
counts : (c : After-step_many_into) {count : ℕ} → c.step_many_into.result ≡ Ok (Some count) → SFits w64 (pos count)
counts c {count} h =
    let few : count ≤ length c.args.block_lengths.now = many-count _ _ _ _ (makes c h) in
    record { sfits = search rules }

-- the plan is not lent
pub returns-in-Err : goal.returns-in-Err
returns-in-Err c =
    let a = c.args in
    let P : Plan = plan_of a.rank a.operands a.extents.now a.blocks.now a.strides.now in
    let W : Walk = walk_in (walk_at a.ended.now a.counters.now a.offsets.now) in
    steps_many (refused-many P W a.block_lengths.now a.block_offsets.now (lent_refused P W (sym c.in-Err.is ∙ c.of.ensures))) (read_code c.negated.type_inv c.negated.ensures)

pub returns-in-Err-step_many_into : goal.returns-in-Err-step_many_into
returns-in-Err-step_many_into c =
    steps_many (makes (goal.at.returns-in-Err-step_many_into c).After-step_many_into c.in-Err-step_many_into.is)
    (read_code c.negated-in-Err-step_many_into.type_inv c.negated-in-Err-step_many_into.ensures)

pub overflow_cast-result : goal.overflow_cast-result
overflow_cast-result c = counts (goal.at.overflow_cast-result c).After-step_many_into (c.in-Ok-step_many_into.is ∙ ap Ok c.in-Some.is)

pub returns-in-None : goal.returns-in-None
returns-in-None c = steps_many (makes (goal.at.returns-in-None c).After-step_many_into (c.in-Ok-step_many_into.is ∙ ap Ok c.in-None.is)) refl

pub returns-in-Some : goal.returns-in-Some
returns-in-Some c =
    let at = (goal.at.returns-in-Some c).After-step_many_into in
    let h = c.in-Ok-step_many_into.is ∙ ap Ok c.in-Some.is in
    steps_many (makes at h) (to_z_pos w64 (counts at h).sfits)
