-- `session::check::tidy` meets its contract. Assumes nothing.
use mathlib.Core.Path.{◌≡◌, ap, ap₂, ◌∙◌, subst}
use mathlib.Core.Bool.{Bool, ◌&&◌}
use Prim.Native.Nat.{◌*◌}
use lib.ListN.{drop}
use Rattle.strided.specs.Step.{blank, blank_z}
use Rattle.session.proofs.Holding.{rest_of}
use Rattle.session.proofs.check.tidy.Goals as goal

pub returns : goal.returns
returns c =
    let i = c.session.inside in
    let w = c.session.invariant in
    let n = i.numbers in
    let e : c.all_zero-e.result ≡ blank (drop c.session.inside.numbers.rank c.session.inside.extents.now) = c.all_zero-e.ensures ∙ ap blank (rest_of 64 n.rank i.extents.now w.extents) in
    let z : c.all_zero-z.result ≡ blank (drop c.session.inside.numbers.operands c.session.inside.sizes.now) = c.all_zero-z.ensures ∙ ap blank (rest_of 8 n.operands i.sizes.now w.sizes) in
    let t : c.all_zero-s.result ≡ blank_z (drop (c.session.inside.numbers.rank * c.session.inside.numbers.operands) c.session.inside.strides.now) = c.all_zero-s.ensures ∙ ap blank_z (rest_of 512 (n.rank * n.operands) i.strides.now w.strides) in
    subst (λ s. (c.all_zero-e.result && (c.all_zero-z.result && c.all_zero-s.result)) ≡ (blank (drop s.rank s.extents) && (blank (drop s.operands s.sizes) && blank_z (drop (s.rank * s.operands) s.strides)))) c.session.view_is
    (ap₂ (λ (a b : Bool). a && b) e (ap₂ (λ (a b : Bool). a && b) z t))
