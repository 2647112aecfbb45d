use Rattle.std.proofs.Common.{List, ◌++◌, ap, ◌∙◌}
use Rattle.cla_tables.specs.declared.stats.GroupStats.{GroupStats}
use Rattle.cla_cli.specs.Stats.{group_lines}
use Rattle.cla_cli.proofs.StatsLaws.{whole_text}
use Rattle.cla_cli.proofs.stats.stats_text.Goals as goal

pub returns : goal.returns
returns g c =
    let appended = c.in_ok-push_groups.ensures
    ∙ ap (λ (gs : List GroupStats). c.in_ok-text.text ++ group_lines 0 gs) c.as_slice.ensures.value in
    whole_text c.args.table.now c.in_ok-stats.stats c.push_groups.new.text c.in_ok-text.text c.in_ok-stats.ensures
    c.in_ok-text.ensures appended
