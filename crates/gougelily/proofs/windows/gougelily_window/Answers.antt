-- `gougelily::windows::gougelily_window` meets its contract: what is made where no row applies, and every lent byte kept where one does.
-- Assumes nothing.
use Rattle.std.proofs.Common.{refl}
use Rattle.layout.proofs.Checks.{checked-through, checked_some, as_through}
use Rattle.window.specs.Memory.{window_memory}
use Rattle.window.specs.Layouts.{WindowTaken, window_taken}
use Rattle.window.proofs.Answers.{refuses, serves}
use Rattle.gougelily.proofs.Answers.{handed-refused, handed_served, read_code}
use Rattle.gougelily.proofs.windows.gougelily_window.Goals as goal

pub window_into-requires : goal.window_into-requires
window_into-requires c =
    let a = c.args in
    -- no row applies
    let l = checked-through a.extents.now a.sizes.now a.strides.now c.check_window.ensures c.in-Ok.is in
    record {
      window_taken = as_through l (λ e m s. WindowTaken e m s a.firsts.now a.counts.now a.steps.now) (window_taken a.extents.now a.sizes.now a.strides.now a.firsts.now a.counts.now a.steps.now l.served);
      zeros = record { extents = refl; strides = refl; shifts = refl };
    }

pub returns-in-Err : goal.returns-in-Err
returns-in-Err c =
    let a = c.args in
    handed-refused window_memory
    (refuses a.extents.now a.sizes.now a.strides.now a.firsts.now a.counts.now a.steps.now _ (checked_some a.extents.now a.sizes.now a.strides.now c.check_window.ensures c.in-Err.is))
    refl (read_code c.negated.type_inv c.negated.ensures)

pub returns : goal.returns
returns c =
    let a = c.args in
    handed_served window_memory
    (serves a.extents.now a.sizes.now a.strides.now a.firsts.now a.counts.now a.steps.now (checked-through a.extents.now a.sizes.now a.strides.now c.check_window.ensures c.in-Ok.is) _ _ _ c.window_into.ensures)
    refl refl
