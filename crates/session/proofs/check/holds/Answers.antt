-- `session::check::holds` meets its contract. Assumes nothing.
use mathlib.Core.Path.{◌≡◌, sym, ◌∙◌, subst}
use mathlib.Core.Bool.{false≢true}
use Rattle.session.specs.Session.{given_of, ranks_of, Right}
use Rattle.session.specs.Made.{numbers_of, ranks_in, Tables}
use Rattle.session.proofs.Holding.{decides_for, decides_as, decides_not, own_ranks, right_layout, right-ranks, right_keeps, all_right}
use Rattle.session.proofs.check.holds.Goals as goal
use Rattle.session.proofs.check.holds.Goals.{After-ranks_right}

-- the table's ranks are the layout's
same : (c : After-ranks_right) → ranks_in c.table_into.new.table c.in-Some.right.session.now.operands ≡ ranks_of (given_of c.in-Some.right.session.now)
same c = let s = c.in-Some.right.session.now in own_ranks (numbers_of s) s.extents s.sizes s.strides c.in-Some.right.right _ c.table_into.ensures

pub returns-then-ranks_right : goal.returns-then-ranks_right
returns-then-ranks_right c =
    let s = c.in-Some.right.session.now in
    let is = same (goal.at.returns-then-ranks_right c).After-ranks_right in
    record {
      told = decides_for Right c.in-Some.ensures
          (decides_as c.kept_right.ensures (λ k. all_right s c.in-Some.right.right (c.ranks_right.ensures.yes c.if-ranks_right.true ∙ is) k) (λ h. right_keeps s h));
      table = λ h. subst (λ s. Tables s c.table_into.new.table) c.in-Some.ensures c.table_into.ensures;
    }

pub returns-else-ranks_right : goal.returns-else-ranks_right
returns-else-ranks_right c =
    let is = same (goal.at.returns-else-ranks_right c).After-ranks_right in
    record {
      told = rw c.if-ranks_right.false
          (decides_for Right c.in-Some.ensures (decides_not (λ h. c.ranks_right.ensures.no c.if-ranks_right.false (right-ranks c.in-Some.right.session.now h ∙ sym is))));
      table = λ h. absurd (false≢true (sym c.if-ranks_right.false ∙ h));
    }

pub returns-in_default : goal.returns-in_default
returns-in_default c =
    record {
      told = decides_not (λ r. c.in_default.ensures (right_layout c.args.session.now r));
      table = λ h. absurd (false≢true h);
    }
