use Rattle.cla_cli.specs.Outcome.{stats_outcome}
use Rattle.cla_cli.specs.Run.{written}
use Rattle.cla_cli.proofs.EndLaws.{uncounted}
use Rattle.cla_cli.proofs.StatsLaws.{stats_counts}
use Rattle.cla_cli.proofs.top.run_command.Goals as goal

pub returns-in-Pack-clause-comes : goal.returns-in-Pack-clause-comes
returns-in-Pack-clause-comes g c = rw (c.in-Pack.is, ← c.budget_or_most-budget-in-Pack.ensures)
    (c.convert.ensures.comes (written (g.O.Sink.told c.args.out.now) (g.O.Sink.faults c.args.out.now)))

pub returns-in-Pack-clause-ending : goal.returns-in-Pack-clause-ending
returns-in-Pack-clause-ending g c = c.convert.ensures.ending (g.O.Sink.faults c.args.out.now)

pub returns-in-Unpack-clause-comes : goal.returns-in-Unpack-clause-comes
returns-in-Unpack-clause-comes g c = rw c.in-Unpack.is
    (c.convert-in-Unpack.ensures.comes (written (g.O.Sink.told c.args.out.now) (g.O.Sink.faults c.args.out.now)))

pub returns-in-Unpack-clause-ending : goal.returns-in-Unpack-clause-ending
returns-in-Unpack-clause-ending g c = c.convert-in-Unpack.ensures.ending (g.O.Sink.faults c.args.out.now)

pub returns-in-Stats-clause-counts : goal.returns-in-Stats-clause-counts
returns-in-Stats-clause-counts g c = rw c.in-Stats.is
    (uncounted (λ t. stats_outcome g.N.Number.BITS t c.in-Stats.table.now) (g.F.Files.state c.args.files.now).told
    c.args.meter.now c.print_stats.result (λ t. stats_counts g.N.Number.BITS t c.in-Stats.table.now))

pub returns-in-Pack-clause-needed : goal.returns-in-Pack-clause-needed
returns-in-Pack-clause-needed g c =
    rw (c.in-Pack.is, ← c.budget_or_most-budget-in-Pack.ensures) c.convert.ensures.needed

pub returns-in-Unpack-clause-needed : goal.returns-in-Unpack-clause-needed
returns-in-Unpack-clause-needed g c = rw c.in-Unpack.is c.convert-in-Unpack.ensures.needed
