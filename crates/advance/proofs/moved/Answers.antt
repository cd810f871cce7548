-- `walk::moved` meets its contract, by the laws of `Signed.antt`: one for each way, at the tests that led there. Assumes nothing.
use Rattle.advance.proofs.Signed.{stays, ahead-add, ahead_is, behind_mul, behind_sub, behind_is}
use Rattle.advance.proofs.moved.Goals as goal

pub returns-then-s-eq0 : goal.returns-then-s-eq0
returns-then-s-eq0 c = stays _ _ _ _ c.ranges.o c.ranges.s c.requires c.if-s-eq0.true

pub overflow_add-result : goal.overflow_add-result
overflow_add-result c = ahead-add _ _ _ _ c.ranges.o c.ranges.s c.requires c.if-s-eq0.false c.if-from-to.true

pub overflow_mul-result-else-from-to : goal.overflow_mul-result-else-from-to
overflow_mul-result-else-from-to c = behind_mul _ _ _ _ c.ranges.o c.ranges.s c.requires c.if-s-eq0.false c.if-from-to.false

pub overflow_sub-result : goal.overflow_sub-result
overflow_sub-result c = behind_sub _ _ _ _ c.ranges.o c.ranges.s c.requires c.if-s-eq0.false c.if-from-to.false

pub returns-then-from-to : goal.returns-then-from-to
returns-then-from-to c = ahead_is _ _ _ _ c.ranges.o c.ranges.s c.requires c.if-s-eq0.false c.if-from-to.true

pub returns-else-from-to : goal.returns-else-from-to
returns-else-from-to c = behind_is _ _ _ _ c.ranges.o c.ranges.s c.requires c.if-s-eq0.false c.if-from-to.false
