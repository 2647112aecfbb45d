use Rattle.std.proofs.Common.{◌∙◌}
use Rattle.cla_script.specs.declared.expr.Script.{Script}
use Rattle.cla_script.specs.Reads.{statements_of}
use Rattle.cla_cli.specs.Outcome.{reads_outcome}
use Rattle.cla_cli.proofs.ReadLaws.{script_read, script_unread}
use Rattle.cla_cli.proofs.inputs.read_script.Goals as goal

pub returns-in-Ok-clause-reads : goal.returns-in-Ok-clause-reads
returns-in-Ok-clause-reads g c told budget there =
    let read = rw there at c.in-Ok.ensures.reads in
    script_read (λ (s : Script g.row.N.Denot). statements_of g.N.Number.value s.statements.items)
    g.N.Number.BITS budget told c.args.name.now read.0 c.deref.result.now c.script_in.result read.1
    (c.deref.ensures.value ∙ read.2.0) read.2.1 c.script_in.ensures.passes

pub returns-in-Err-clause-reads : goal.returns-in-Err-clause-reads
returns-in-Err-clause-reads g c told budget there = script_unread
    (λ (s : Script g.row.N.Denot). reads_outcome g.N.Number.BITS budget told
    (statements_of g.N.Number.value s.statements.items))
    g.N.Number.BITS budget told c.args.name.now c.in-Err.unread c.tell_text.result (rw there at c.in-Err.ensures.reads)
    c.tell_text.ensures
