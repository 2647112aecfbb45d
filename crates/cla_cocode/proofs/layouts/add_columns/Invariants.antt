use Rattle.std.proofs.Common.{◌≡◌, ◌+◌, ◌-◌, ◌≤◌, length}
use Rattle.cla_grouping.specs.Grouping.{groups_to}
use Rattle.cla_stats.specs.Coded.{tuples_of_each}
use Rattle.cla_cocode.specs.Kept.{AreCounted, columns_of}
use Rattle.cla_cocode.proofs.layouts.add_columns.Given as goal

-- the groups of the columns so far, and the tuples of the others
abbrev pub invariant-loop-tuples : goal.invariant-loop-tuples
invariant-loop-tuples g l = record {
  left : l.tuples-iterator.rest.items ≡ tuples_of_each l.m l.column (l.past - l.column);
  from : l.first ≤ l.column;
  to : l.column ≤ l.past;
  counted : AreCounted l.m l.column l.groups.items;
  columns : columns_of l.groups.items ≡ groups_to l.m l.column;
  few : length l.groups.items ≤ length l.fn.groups.items + (l.column - l.first);
}
