use Rattle.cla_cli.proofs.RunLaws.{text_runs, halt_cause}
use Rattle.cla_cli.proofs.statements.put_text.Goals as goal

pub returns-clause-runs : goal.returns-clause-runs
returns-clause-runs g c told =
    text_runs told c.args.text.now (g.O.Sink.told c.args.out.now) (g.O.Sink.told c.put_all.new.out)
    c.put_all.result c.halted_by.result c.halted_by.ensures c.put_all.ensures.puts

pub returns-clause-cause : goal.returns-clause-cause
returns-clause-cause g c = halt_cause (g.O.Sink.faults c.args.out.now) (g.O.Sink.faults c.put_all.new.out)
    c.put_all.result
    c.halted_by.result c.halted_by.ensures c.put_all.ensures.cause
