-- `gougelily::descriptions::gougelily_from_numpy` meets its contract: what the text says is handed out, or every lent byte is kept.
-- Assumes nothing.
use mathlib.Core.Path.{refl, ap}
use Rattle.numpy.specs.Memory.{described_memory}
use Rattle.numpy.specs.Readers.{joined}
use Rattle.gougelily.proofs.Answers.{handed-refused, handed_served, read_code}
use Rattle.gougelily.proofs.descriptions.gougelily_from_numpy.Goals as goal

pub returns-in-Err : goal.returns-in-Err
returns-in-Err c =
    record {
      says = joined c.from_numpy_into.result c.from_numpy_into.new.extents c.from_numpy_into.new.strides;
      from = c.from_numpy_into.ensures;
      handed =
          handed-refused described_memory refl (ap (λ r. joined r c.from_numpy_into.new.extents c.from_numpy_into.new.strides) c.in-Err.is) (read_code c.negated.type_inv c.negated.ensures);
    }

pub returns : goal.returns
returns c =
    record {
      says = joined c.from_numpy_into.result c.from_numpy_into.new.extents c.from_numpy_into.new.strides;
      from = c.from_numpy_into.ensures;
      handed = handed_served described_memory refl (ap (λ r. joined r c.from_numpy_into.new.extents c.from_numpy_into.new.strides) c.in-Ok.is) refl;
    }
