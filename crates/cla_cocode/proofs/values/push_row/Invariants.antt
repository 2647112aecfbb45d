use Rattle.std.proofs.Common.{◌≡◌, ◌++◌, map, drop}
use Rattle.cla_grouping.specs.Tuples.{tuple_in_row}
use Rattle.cla_cocode.proofs.values.push_row.Given as goal

-- the values so far and those of the columns that are left are all values
abbrev pub invariant-loop-column : goal.invariant-loop-column
invariant-loop-column g l = record {
  values : map g.N.Number.value l.values.items ++ tuple_in_row l.m (drop l.column-index l.columns) l.row
      ≡ map g.N.Number.value l.fn.values.items ++ tuple_in_row l.m l.columns l.row;
}
