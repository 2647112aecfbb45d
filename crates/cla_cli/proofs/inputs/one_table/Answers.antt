use Rattle.cla_tables.specs.TableFiles.{TableFile}
use Rattle.cla_cli.specs.Outcome.{with_table}
use Rattle.cla_cli.proofs.ReadLaws.{lets_error}
use Rattle.cla_cli.proofs.inputs.one_table.Goals as goal

pub returns-in-Ok-of-clause-reads : goal.returns-in-Ok-of-clause-reads
returns-in-Ok-of-clause-reads g c told next there = rw c.in-Ok-of.ensures (c.in-Ok.ensures.reads told next there)

pub returns-in-Err-clause-reads : goal.returns-in-Err-clause-reads
returns-in-Err-clause-reads g c told next there =
    lets_error next next
    (with_table g.N.Number.BITS c.args.budget told c.args.name.now (λ (t : TableFile). next t.matrix))
    c.in-Err.unfinished (c.in-Err.ensures.reads told next there)
