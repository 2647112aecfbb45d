use Rattle.std.proofs.Common.{ap, ◌∙◌}
use Rattle.cla_grouping.specs.Grouping.{CutOf, packed_size}
use Rattle.cla_tables.proofs.CutLaws.{cut-columns}
use Rattle.cla_tables.proofs.StatsLaws.{cut_told}
use Rattle.cla_tables.proofs.stats.text_stats.Goals as goal

pub stats_of_groups-requires : goal.stats_of_groups-requires
stats_of_groups-requires g c =
    cut-columns c.args.m.now c.in_ok-cut.cut c.cells.ensures.shape.a_col c.in_ok-cut.ensures.rule c.deref.result.now
    c.deref.ensures.value

pub returns : goal.returns
returns g c = record {
  rows = c.rows.ensures;
  cols = c.cols.ensures;
  bytes = c.size.ensures ∙ ap (λ (cut : CutOf). packed_size cut) c.in_ok-cut.ensures.rule;
  groups = cut_told c.args.m.now c.in_ok-cut.cut c.deref.result.now c.in_ok-stats_of_groups.field-0.items
      c.in_ok-cut.ensures.rule c.deref.ensures.value c.in_ok-stats_of_groups.ensures;
}
