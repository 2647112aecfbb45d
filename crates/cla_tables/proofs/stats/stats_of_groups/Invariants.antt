use Rattle.std.proofs.Common.{◌≡◌, take, map}
use Rattle.cla_cocode.specs.Cuts.{group_seen}
use Rattle.cla_tables.specs.Stats.{stats_of}
use Rattle.cla_tables.proofs.stats.stats_of_groups.Given as goal

-- what is told of the groups so far
abbrev pub invariant-loop-group : goal.invariant-loop-group
invariant-loop-group g l = l.stats.items ≡ map (λ x. stats_of l.m (group_seen x)) (take l.group-index l.groups)
