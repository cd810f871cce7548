-- `gougelily::checks::gougelily_check_layout` meets its contract. Assumes nothing.
use mathlib.Core.Path.{◌≡◌, sym, ap, ◌∙◌}
use mathlib.Core.List.{List}
use Prim.Native.Nat.{ℕ}
use lib.IntN.{ℤ, pos}
use borrow.Author.Rules.{rules}
use Rattle.std.specs.Prelude.{Option, Ok, Err, Result}
use Rattle.strided.specs.Memory.{code_of}
use Rattle.strided.specs.Refusals.{answered, layout_refused}
use Rattle.strided.specs.declared.Purpose.{Purpose}
use Rattle.strided.specs.declared.Refusal.{Refusal}
use Rattle.layout.specs.Checked.{Checked}
use Rattle.layout.specs.declared.Layout.{Layout}
use Rattle.gougelily.proofs.Answers.{read_code}
use Rattle.gougelily.proofs.checks.gougelily_check_layout.Goals as goal

-- 0 where nothing is refused
abbrev told : Option Refusal → ℤ
told o = code_of (λ value. pos 0) (answered o)

checked_as : (refused : Option Refusal) (es sizes : List ℕ) (ss : List ℤ) (r : Result Layout Refusal) → Checked refused es sizes ss r → code_of (λ value. pos 0) r ≡ told refused
checked_as refused es sizes ss (Ok l) laid = sym (ap told laid.served)
checked_as refused es sizes ss (Err q) e = sym (ap told e)

pub returns : goal.returns
returns c =
    let a = c.args in
    read_code c.code.type_inv
    (c.code.ensures (λ value. pos 0) (λ value m h p. search rules)
    ∙ checked_as _ a.extents.now a.sizes.now a.strides.now _ c.check_layout-answer.ensures
    ∙ ap (λ (u : Purpose). told (layout_refused a.extents.now a.sizes.now a.strides.now u)) c.purpose_of.ensures)
