use Rattle.std.proofs.Common.{◌≡◌, ◌++◌, map}
use Rattle.cla_cocode.specs.Cuts.{group_seen}
use Rattle.cla_cocode.specs.Kept.{kept_seen}
use Rattle.cla_cocode.proofs.layouts.cut_groups.Given as goal

-- the groups so far and those that are left are all groups
abbrev pub invariant-loop-group : goal.invariant-loop-group
invariant-loop-group l = record {
  groups : map group_seen l.groups.items ++ map kept_seen l.group-iterator.rest.items
      ≡ map kept_seen l.fn.kept.items;
}
