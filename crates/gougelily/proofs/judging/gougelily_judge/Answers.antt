-- `gougelily::judging::gougelily_judge` meets its contract: the judgement is that of `judge`, its answer as a number. Assumes nothing.
use mathlib.Core.Path.{◌≡◌, refl, ◌∙◌}
use lib.IntN.{pos}
use borrow.Author.Rules.{rules}
use Rattle.std.specs.Prelude.{Ok, Err, Result}
use Rattle.strided.specs.Memory.{code_of}
use Rattle.strided.specs.declared.Refusal.{Refusal}
use Rattle.judge.specs.Memory.{verdict_number, judged_number}
use Rattle.judge.specs.declared.Verdict.{Verdict}
use Rattle.gougelily.proofs.Answers.{read_code}
use Rattle.gougelily.proofs.judging.gougelily_judge.Goals as goal

judged_as : (answer : Result Verdict Refusal) → code_of (λ verdict. pos (verdict_number verdict)) answer ≡ judged_number answer
judged_as (Ok verdict) = refl
judged_as (Err r) = refl

pub returns : goal.returns
returns c =
    record {
      answer = c.judge-judged.result;
      judges = c.judge-judged.ensures;
      code =
          read_code c.code.type_inv
          (c.code.ensures (λ verdict. pos (verdict_number verdict)) (λ verdict m h p. search rules) ∙ judged_as c.judge-judged.result);
    }
