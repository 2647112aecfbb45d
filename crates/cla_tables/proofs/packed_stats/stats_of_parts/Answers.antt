use Rattle.std.proofs.Common.{sym, subst}
use Rattle.cla_tables.specs.KeptStats.{IsKeptPart}
use Rattle.cla_tables.proofs.packed_stats.stats_of_parts.Goals as goal

pub stats_of_part-requires : goal.stats_of_part-requires
stats_of_part-requires g c = subst IsKeptPart (sym c.part-item.is)
    (c.requires c.loop-part.part-index c.part-item.result c.loop-part-test.true)
