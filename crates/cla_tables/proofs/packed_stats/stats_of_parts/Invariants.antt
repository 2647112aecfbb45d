use Rattle.std.proofs.Common.{◌≡◌, take, map}
use Rattle.cla_tables.specs.KeptStats.{stats_kept}
use Rattle.cla_tables.proofs.packed_stats.stats_of_parts.Given as goal

-- what is told of the groups so far
abbrev pub invariant-loop-part : goal.invariant-loop-part
invariant-loop-part g l = l.stats.items ≡ map stats_kept (take l.part-index l.parts)
