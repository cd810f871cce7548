-- `joining::moves::clear_plan` meets its contract. Assumes nothing.
use Rattle.std.proofs.Common.{◌≡◌, ℕ, ◌*◌, ◌-◌, List, ℤ, pos, ◌++◌, length, take, drop, replicate, sym, ap, ◌∙◌, arith, length-take-le}
use Rattle.laws.specs.Base.Filling.{fill_none}
use Rattle.joining.proofs.Closing.{cleared}
use Rattle.joining.proofs.moves.clear_plan.Goals as goal

pub returns : goal.returns
returns c =
    let S = c.args.plan_strides.now in
    let k = c.args.numbers.plan_operands * 64 in
    let few = c.requires.plan_operands_bound in
    let long = c.told-plan_strides in
    let some : length (take k S) ≡ k - 0 = length-take-le k S (omega (arith, few, long)) ∙ (let e : k ≡ k - 0 = omega arith in e) in
    ap (λ (l : List ℤ). l ++ drop k S) (c.fill.ensures.after (λ y h. h) ∙ ap (λ (n : ℕ). replicate n (pos 0)) some)
    ∙ cleared (pos 0) 512 0 k S long (omega arith) (omega (arith, few)) c.requires.plan_strides_value
    ∙ sym (fill_none 512 (pos 0))
