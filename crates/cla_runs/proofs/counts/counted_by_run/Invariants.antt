use Rattle.cla_rows.specs.RunBounds.{edge}
use Rattle.cla_rows.proofs.CountedRows.{AreCountedFrom}
use Rattle.cla_runs.specs.Rows.{rows_in_runs}
use Rattle.cla_runs.proofs.counts.counted_by_run.Given as goal

-- the rows from stretch s on are counted
abbrev pub invariant-loop-s : goal.invariant-loop-s
invariant-loop-s l = record {
  counted : AreCountedFrom (edge l.runs.begins.items l.runs.ends.items l.s) (rows_in_runs l.tuples l.rest l.runs).codes
      l.tuples l.counts.items l.first_rows.items;
}
