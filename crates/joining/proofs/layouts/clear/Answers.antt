-- `joining::layouts::clear` meets its contract: every place holds what the closure gives. Assumes nothing.
use Rattle.std.proofs.Common.{◌≡◌, refl, ap, ◌∙◌, ℕ, replicate, rules}
use Rattle.joining.proofs.Closing.{folds_same}
use Rattle.joining.proofs.layouts.clear.Goals as goal

pub returns : goal.returns
returns g c =
    let f = c.fill_with.ensures in
    folds_same c.args.zero (λ p. p.0.now ≡ c.args.zero) (λ p x q i h. search (rules, i)) _ _ _ refl f.ran.1
    ∙ ap (λ (n : ℕ). replicate n c.args.zero) f.len
