use Rattle.std.proofs.Common.{refl, sym, subst, ◌∙◌, ap, map}
use Rattle.std.specs.Prelude.{All}
use Rattle.cla_tables.specs.KeptStats.{IsKeptPart, stats_kept}
use Rattle.cla_tables.proofs.KeptLaws.{kept_parts, table_told}
use Rattle.cla_tables.proofs.packed_stats.packed_stats.Goals as goal

pub stats_of_parts-requires : goal.stats_of_parts-requires
stats_of_parts-requires g c = subst (All IsKeptPart) (sym c.parts.ensures.parts)
    (kept_parts c.args.packed.now.table c.requires.canonical c.requires.forms)

pub returns : goal.returns
returns g c =
    table_told c.args.packed.now.table c.requires.canonical c.args.packed.now.bytes _ c.requires.upright c.rows.ensures
    c.cols.ensures refl (c.in_ok-stats_of_parts.ensures ∙ ap (map stats_kept) c.parts.ensures.parts)
