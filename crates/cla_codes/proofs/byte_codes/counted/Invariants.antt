use Rattle.cla_rows.proofs.CountedRows.{AreCountedFrom}
use Rattle.cla_codes.specs.Bytes.{codes_in}
use Rattle.cla_codes.proofs.byte_codes.counted.Given as goal

-- the rows from row i on are counted
abbrev pub invariant-loop-i : goal.invariant-loop-i
invariant-loop-i g l = record {
  counted : AreCountedFrom l.i (codes_in g.row.W l.bytes l.rows) l.tuples l.counts.items l.first_rows.items;
}
