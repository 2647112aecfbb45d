use Rattle.std.proofs.Common.{◌≡◌, ◌+◌, length, drop}
use Rattle.std.specs.List.{filter}
use Rattle.cla_cocode.specs.Weighing.{begins_pair}
use Rattle.cla_cocode.proofs.weigh.runs_in.Given as goal

-- the runs so far and those of the rows that are left are all runs
abbrev pub invariant-loop-row : goal.invariant-loop-row
invariant-loop-row l = let begins = begins_pair l.first l.a l.second l.b in record {
  runs : l.runs + length (filter begins (drop l.row-index l.rows)) ≡ length (filter begins l.rows);
}
