-- `gougelily::copying::gougelily_copy` meets its contract: the copy is that of `export::copy`, its answer as a number. Assumes nothing.
use Rattle.std.proofs.Common.{ap, ◌∙◌, pos}
use Rattle.std.specs.Prelude.{Result}
use Rattle.strided.specs.Memory.{code_of}
use Rattle.strided.specs.declared.Refusal.{Refusal}
use Rattle.gougelily.proofs.Answers.{whether_code, read_code}
use Rattle.gougelily.proofs.copying.gougelily_copy.Goals as goal

pub returns : goal.returns
returns c =
    let d = c.copy.ensures in
    record {
      code =
          read_code c.code_of.type_inv
          (c.code_of.ensures ∙ ap (λ (x : Result (Unit {0}) Refusal). code_of (λ value. pos 0) x) d.answer ∙ whether_code _);
      memory = d.destination;
    }
