-- `numpy::units::Unit::turn_to_elements` meets its contract: the strides in front are in elements, those behind still in bytes.
-- Assumes nothing.
use mathlib.Core.Path.{◌≡◌, ap, ◌∙◌}
use mathlib.Core.List.{List, ◌++◌, map, append-nil}
use borrow.Author.Rules.{rules}
use lib.IntN.{ℤ, pos}
use lib.ListN.{drop, set, get_or}
use lib.Seq.{take_all}
use Rattle.std.proofs.lemmas.List.{drop_all}
use Rattle.std.proofs.lemmas.List.Edits.{map_over_more}
use Rattle.laws.specs.Base.Bits.{read_back}
use Rattle.numpy.specs.Numpy.{reversed, element_stride}
use Rattle.numpy.specs.Reversing.{reverse-reversed}
use Rattle.numpy.proofs.units.Unit.turn_to_elements.Goals as goal

pub loop-place-preserved : goal.loop-place-preserved
loop-place-preserved c =
    let xs = c.args.strides.now in
    let l = c.loop-place in
    let f : ℤ → ℤ = element_stride c.args.self.size in
    ap (set l.strides l.place-index) (read_back c.element_stride.result c.element_stride.type_inv ∙ c.element_stride.ensures ∙ ap f (read_back (get_or l.strides l.place-index (pos 0)) (search rules)))
    ∙ map_over_more f xs l.strides l.place-index (get_or l.strides l.place-index (pos 0)) c.loop-place-test.true l.invariant (search rules)

pub returns : goal.returns
returns c =
    let xs = c.args.strides.now in
    let l = c.loop-place in
    let f : ℤ → ℤ = element_stride c.args.self.size in
    let done : l.strides ≡ map f xs = l.invariant ∙ ap (λ (u : List ℤ). map f u ++ drop l.place-index xs) (take_all l.place-index xs c.loop-place-test.false)
    ∙ ap (λ (u : List ℤ). map f xs ++ u) (drop_all l.place-index xs c.loop-place-test.false) ∙ append-nil (map f xs) in
    c.reverse.ensures.after ∙ reverse-reversed l.strides ∙ ap reversed done
