-- A whole text: an L line and the lines behind it.
-- Assumes nothing.
use mathlib.Core.Path.{◌≡◌, sym, ap, ◌∙◌}
use mathlib.Core.List.{List, ◌++◌}
use Prim.Native.Nat.{ℕ, ◌≤◌}
use lib.ListN.{length}
use Rattle.strided.specs.Text.{Parsed, head_line, NotInForm}
use Rattle.strided.specs.declared.Purpose.{Purpose}
use Rattle.laws.specs.Text.Once.{head_once}
use Rattle.reading.specs.Heads.{HeadHere}
use Rattle.reading.specs.Lines.{Arrays, TakesLines}
use Rattle.reading.specs.Texts.{ReadsText}
use Rattle.reading.proofs.Answers.{clash}
use Rattle.std.specs.Prelude.{Option, Some, None}
use Rattle.reading.specs.declared.Said.{Said}

module _ {text : List ℕ} {old new : Arrays} where
  not_formed : NotInForm text → ReadsText text old new None
  not_formed none = record { layout = λ l e. clash (cc); unformed = λ e. none }

  module _ {u : Purpose} {rank operands : ℕ} {lines : List ℕ} (h : HeadHere text u rank operands lines) {b : Option (Unit {0})} (t : TakesLines lines rank operands old new b) where
    pub text_open : b ≡ None → ReadsText text old new None
    text_open e = not_formed none
      where
        none : NotInForm text
        none p f =
            let s = head_once u p.purpose rank p.rank operands p.operands lines _ (sym h.form ∙ f.form) in
            t.no e p.extents p.lines
            (record {
              axes = f.axes ∙ sym s.ranks;
              extents_fit = f.extents_fit;
              operand_lines = f.operand_lines ∙ sym s.counts;
              rows = rw s.ranks f.rows;
              form = s.rests;
            })

    pub text_told : length text ≤ 16384 → b ≡ Some tt → ReadsText text old new (Some (record { purpose = u; rank = rank; operands = operands }))
    text_told short e =
        let read = t.yes e in
        let l = read.2 in
        let p : Parsed = record { purpose = u; rank = rank; operands = operands; extents = read.0; lines = read.1 } in
        record {
          layout = λ w q. (
              let said : record { purpose = u; rank = rank; operands = operands } ≡ w = cc in (
                p,
                record {
                  form =
                      record {
                        short = short;
                        form = h.form ∙ ap (λ (x : List ℕ). head_line u rank operands ++ x) l.form;
                        axes = l.axes;
                        operand_lines = l.operand_lines;
                        rows = l.rows;
                        rank_fits = h.rank_fits;
                        operands_fit = h.operands_fit;
                        chosen_fits = h.chosen_fits;
                        extents_fit = l.extents_fit;
                      };
                  purposes = ap (λ (y : Said). y.purpose) said;
                  ranks = ap (λ (y : Said). y.rank) said;
                  counts = ap (λ (y : Said). y.operands) said;
                  arrays = read.3;
                },
              ));
          unformed = λ q. clash (cc);
        }
