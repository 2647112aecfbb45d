use Rattle.cla_rows.proofs.CountedRows.{AreCountedFrom}
use Rattle.cla_rows.proofs.row_counts.counted.Given as goal

-- the rows from row i on are counted
abbrev pub invariant-loop-i : goal.invariant-loop-i
invariant-loop-i l = record {
  counted : AreCountedFrom l.i l.codes l.tuples l.counts.items l.first_rows.items;
}
