use Rattle.std.proofs.Common.{◌≡◌, ◌≤◌, ◌-◌, length}
use Rattle.cla_grouping.specs.Grouping.{groups_to}
use Rattle.cla_cocode.specs.Kept.{AreCounted, columns_of}
use Rattle.cla_cocode.proofs.layouts.kept_groups.Given as goal

-- the groups of the columns so far
abbrev pub invariant-loop-first : goal.invariant-loop-first
invariant-loop-first g l = record {
  columns : columns_of l.groups.items ≡ groups_to l.m l.first;
  counted : AreCounted l.m l.first l.groups.items;
  few : length l.groups.items ≤ l.first;
  within : l.first ≤ l.m.cols;
}

abbrev pub decreases-loop-first : goal.decreases-loop-first
decreases-loop-first g l = l.m.cols - l.first
