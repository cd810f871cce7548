-- `text::walklist` meets its contract: what was read is what the text says, and its listing is the text's. Assumes nothing.
use mathlib.Core.Path.{◌≡◌, refl, ◌∙◌}
use borrow.Author.Rules.{rules}
use Rattle.std.specs.Prelude.{Some}
use Rattle.laws.specs.Text.Planning.{lists_said}
use Rattle.text.proofs.Listings.{said-listed}
use Rattle.text.proofs.walklist.Goals as goal

pub returns : goal.returns
returns c =
    let room = c.args.room.now in
    let said : c.read_text.result ≡ Some c.in_ok-said.said = search rules in
    let w = c.read_text.ensures.layout _ said in
    lists_said w.1.form room _ (c.list_numbers.ensures ∙ said-listed w.1 (record { axes = refl; few = refl; all = refl }) room)
