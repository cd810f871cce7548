-- `decline::keeps_apart` meets its contract: the test for whole lines, and only if it holds the span. Assumes nothing.
use Rattle.laws.specs.Cut.Elements.{separates}
use Rattle.decline.proofs.keeps_apart.Goals as goal

pub returns-then-whole_lines : goal.returns-then-whole_lines
unfolding separates
returns-then-whole_lines c = rw (← c.span_so_far.ensures, ← c.stride_size-s.ensures, ← c.size.ensures, ← c.whole_lines.ensures, c.if-whole_lines.true)

pub returns-else-whole_lines : goal.returns-else-whole_lines
unfolding separates
returns-else-whole_lines c = rw (← c.stride_size-s.ensures, ← c.size.ensures, ← c.whole_lines.ensures, c.if-whole_lines.false)
