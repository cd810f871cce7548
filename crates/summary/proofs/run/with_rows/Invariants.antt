-- The invariants of `run::with_rows`.
use Rattle.summary.specs.Ahead.{rows_from, met}
use Rattle.summary.proofs.Meeting.{Rowing}
use Rattle.summary.proofs.run.with_rows.Given as goal

abbrev pub invariant-loop-j : goal.invariant-loop-j
invariant-loop-j l =
    Rowing l.cells l.rows.by l.rows.count l.rows.stride l.rows.n (met l.cells l.initial.t (rows_from l.rows.first l.rows.by l.rows.count l.rows.stride l.rows.n)) l.j l.t l.o
