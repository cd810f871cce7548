-- `gougelily::indices::gougelily_original_index` meets its contract. Assumes nothing.
use Rattle.strided.specs.Index.{told_original}
use Rattle.strided.specs.declared.Purpose.{Purpose}
use Rattle.strided.specs.declared.Told.{Told}
use Rattle.gougelily.proofs.Answers.{told_as, read_code}
use Rattle.gougelily.proofs.indices.gougelily_original_index.Goals as goal
use Rattle.std.specs.Prelude.{Result}
use Rattle.strided.specs.declared.Refusal.{Refusal}

pub returns : goal.returns
returns c =
    -- what is told for a purpose
    let told : Purpose → Result Told Refusal = λ u. told_original c.args.extents.now c.args.sizes.now c.args.strides.now u c.args.counters.now in
    told_as told c.purpose_of.ensures c.original_index_into-answer.ensures (read_code c.code_of.type_inv c.code_of.ensures)
