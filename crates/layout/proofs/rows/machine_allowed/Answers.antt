-- `layout::rows::machine_allowed` meets its contract: its tests are those of `allowed`, one after the other. Assumes nothing.
use Rattle.std.proofs.Common.{rules, refl, sym, ◌∙◌, ◌≡◌, ◌&&◌}
use mathlib.Core.Bool.{false≢true}
use Rattle.std.specs.Prelude.{leb}
use Rattle.layout.proofs.Table.{allowed_is}
use Rattle.layout.proofs.rows.machine_allowed.Goals as goal
use Rattle.layout.proofs.rows.machine_allowed.Goals.{then-line_allowed, else-line_allowed, then-contains, else-contains}

pub returns-then-way_allowed : goal.returns-then-way_allowed
returns-then-way_allowed c =
    let mc = c.args.machine in
    let e : c.contains-then-way_allowed.result ≡ (leb 1 mc.live && leb mc.live 16) = search rules in
    elim c.if-contains.branch [
      | then-contains w ↦ elim c.if-line_allowed.branch [
        | then-line_allowed v ↦
            let b : v.contains.result ≡ (leb 4096 mc.cache && leb mc.cache 1048576) = search rules in
            allowed_is mc (sym v.if-line_allowed.true ∙ c.line_allowed.ensures) (sym (sym v.value-is ∙ w.if-contains.true) ∙ b)
            (sym (sym w.value-is ∙ c.if-way_allowed.true) ∙ w.way_allowed.ensures) e
        | else-line_allowed v ↦ absurd (false≢true (sym v.if-line_allowed.false ∙ sym v.value-is ∙ w.if-contains.true))
      ]
      | else-contains w ↦ absurd (false≢true (sym w.if-contains.false ∙ sym w.value-is ∙ c.if-way_allowed.true))
    ]

pub returns-else-way_allowed : goal.returns-else-way_allowed
returns-else-way_allowed c =
    let mc = c.args.machine in
    c.if-way_allowed.false ∙ elim c.if-line_allowed.branch [
      | then-line_allowed v ↦
          let b : v.contains.result ≡ (leb 4096 mc.cache && leb mc.cache 1048576) = search rules in
          elim c.if-contains.branch [
            | then-contains w ↦
                allowed_is mc (sym v.if-line_allowed.true ∙ c.line_allowed.ensures) (sym (sym v.value-is ∙ w.if-contains.true) ∙ b)
                (sym (sym w.value-is ∙ c.if-way_allowed.false) ∙ w.way_allowed.ensures) refl
            | else-contains w ↦ allowed_is mc (sym v.if-line_allowed.true ∙ c.line_allowed.ensures) (sym (sym v.value-is ∙ w.if-contains.false) ∙ b) refl refl
          ]
      | else-line_allowed v ↦ allowed_is mc (sym v.if-line_allowed.false ∙ c.line_allowed.ensures) refl refl refl
    ]
