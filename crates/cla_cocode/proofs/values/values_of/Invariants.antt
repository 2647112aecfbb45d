use Rattle.std.proofs.Common.{◌≡◌, ◌++◌, map, drop}
use Rattle.cla_cocode.specs.Built.{values_in_rows}
use Rattle.cla_cocode.proofs.values.values_of.Given as goal

-- the values so far and those of the rows that are left are all values
abbrev pub invariant-loop-row : goal.invariant-loop-row
invariant-loop-row g l = record {
  values : map g.N.Number.value l.values.items ++ values_in_rows l.m l.columns (drop l.row-index l.rows)
      ≡ values_in_rows l.m l.columns l.rows;
}
