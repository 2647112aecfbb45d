use Rattle.cla_cli.proofs.ReadLaws.{table_within, table_exceeds, table_unread}
use Rattle.cla_cli.proofs.EndingLaws.{ending_over}
use Rattle.cla_cli.proofs.budget.read_within.Goals as goal

pub returns-in-Err-clause-reads : goal.returns-in-Err-clause-reads
returns-in-Err-clause-reads g c told next there = table_unread next g.N.Number.BITS c.args.budget told c.args.name.now
    next
    c.in-Err.unread c.tell_table.result (rw there at c.in-Err.ensures.reads) c.tell_table.ensures

pub returns-in-Ok-within_budget-clause-reads : goal.returns-in-Ok-within_budget-clause-reads
returns-in-Ok-within_budget-clause-reads g c told next there =
    table_within g.N.Number.BITS c.args.budget told c.args.name.now
    c.in-Ok.table next (rw there at c.in-Ok.ensures.reads) c.in-Ok-within_budget.ensures

pub returns-in-Err-within_budget-clause-reads : goal.returns-in-Err-within_budget-clause-reads
returns-in-Err-within_budget-clause-reads g c told next there = table_exceeds next g.N.Number.BITS c.args.budget told
    c.args.name.now c.in-Ok.table next c.in-Err-within_budget.unfinished (rw there at c.in-Ok.ensures.reads)
    c.in-Err-within_budget.ensures

pub returns-in-Err-within_budget-clause-ending : goal.returns-in-Err-within_budget-clause-ending
returns-in-Err-within_budget-clause-ending g c = ending_over (g.F.Files.state c.args.files.now)
    (g.F.Files.state c.read_table.new.files) c.args.name.now c.args.budget c.in-Ok.table.bytes
    c.in-Err-within_budget.unfinished c.in-Err-within_budget.ensures c.in-Ok.ensures.cause.1
    c.in-Ok.ensures.frame.write_faults c.in-Ok.ensures.cause.0
