use Rattle.std.proofs.Common.{◌≡◌, take}
use Rattle.cla_spec.specs.Matrix.{IsShaped}
use Rattle.cla_grouping.specs.Tuples.{tuples_in}
use Rattle.cla_stats.specs.Coded.{tuples_seen}
use Rattle.cla_stats.proofs.coded.code_columns.Given as goal

-- the tuples of the columns so far
abbrev pub invariant-loop-k : goal.invariant-loop-k
invariant-loop-k g l = record {
  tuples : tuples_seen l.coded ≡ tuples_in l.m (take l.k l.columns);
  shape : IsShaped l.m.rows l.m.cols l.m.cells;
}
