use Rattle.std.proofs.Common.{◌≡◌, ◌+◌, drop, map}
use Rattle.cla_grouping.specs.Grouping.{bytes_in}
use Rattle.cla_cocode.specs.Cuts.{group_seen}
use Rattle.cla_cocode.proofs.cut.size.Given as goal

-- the bytes so far and those of the groups that are left are all bytes
abbrev pub invariant-loop-group : goal.invariant-loop-group
invariant-loop-group l = record {
  bytes : l.total + bytes_in (map group_seen (drop l.group-index l.l.groups.items))
      ≡ 20 + bytes_in (map group_seen l.l.groups.items);
}
