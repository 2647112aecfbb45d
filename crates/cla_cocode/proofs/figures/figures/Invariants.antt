use Rattle.std.proofs.Common.{◌≡◌, length}
use Rattle.cla_layout.specs.Listed.{rows_where}
use Rattle.cla_grouping.specs.Sizes.{is_listed, begins_listed}
use Rattle.cla_cocode.proofs.figures.figures.Given as goal

-- the rows so far are counted
abbrev pub invariant-loop-i : goal.invariant-loop-i
invariant-loop-i l = record {
  rows : l.listed_rows ≡ length (rows_where (is_listed l.zero l.codes) l.i);
  runs : l.listed_runs ≡ length (rows_where (begins_listed l.zero l.codes) l.i);
}
