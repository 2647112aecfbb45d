use Rattle.cla_tables.specs.TableFiles.{TableFile}
use Rattle.cla_cli.specs.Outcome.{with_table}
use Rattle.cla_cli.proofs.ReadLaws.{lets_error}
use Rattle.cla_cli.proofs.budget.read_matrix.Goals as goal

pub returns-in-Err-clause-reads : goal.returns-in-Err-clause-reads
returns-in-Err-clause-reads g c told next there =
    lets_error (λ (t : TableFile). next t.matrix) next
    (with_table g.N.Number.BITS c.args.budget told c.args.name.now (λ (t : TableFile). next t.matrix))
    c.in-Err.unfinished (c.in-Err.ensures.reads told (λ (t : TableFile). next t.matrix) there)
