use Rattle.std.proofs.Common.{refl}
use Rattle.cla_layout.specs.declared.kind.Kind.TheVariants as kind
use Rattle.cla_tables.specs.declared.stats.GroupStats.{GroupStats}
use Rattle.cla_cli.specs.Stats.{group_lines}
use Rattle.cla_cli.proofs.StatsLaws.{line_appended, lines_end}
use Rattle.cla_cli.proofs.stats.push_groups.Goals as goal

pub loop-before-init : goal.loop-before-init
loop-before-init c = refl

pub loop-before-preserved : goal.loop-before-preserved
loop-before-preserved c =
    let none : GroupStats = record { kind = kind.Plain; width = 0; tuples = 0; bytes = 0 } in
    line_appended (group_lines 0 c.args.groups.now) c.args.text.now c.loop-before.text c.push_group.new.text
    c.loop-before.before c.args.groups.now none c.loop-before-test.true c.in_ok-push_group.ensures
    c.loop-before.invariant

pub returns : goal.returns
returns c =
    lines_end (group_lines 0 c.args.groups.now) c.args.text.now c.loop-before.text c.loop-before.before
    c.args.groups.now
    c.loop-before-test.false c.loop-before.invariant
