use Rattle.std.proofs.Common.{◌≡◌, length}
use Rattle.cla_layout.specs.Listed.{rows_where}
use Rattle.cla_cocode.specs.Weighing.{is_listed_pair, begins_pair}
use Rattle.cla_cocode.proofs.weigh.listed_pairs.Given as goal

-- the rows so far are counted
abbrev pub invariant-loop-i : goal.invariant-loop-i
invariant-loop-i l = record {
  rows : l.rows ≡ length (rows_where (is_listed_pair l.first l.a l.second l.b) l.i);
  runs : l.runs ≡ length (rows_where (begins_pair l.first l.a l.second l.b) l.i);
}
