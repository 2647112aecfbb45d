use Rattle.std.proofs.Common.{◌∙◌, ap}
use Rattle.cla_script.specs.declared.expr.Script.{Script}
use Rattle.cla_script.specs.Reads.{statements_of}
use Rattle.cla_check.specs.Checks.{script_of}
use Rattle.cla_cli.specs.Outcome.{reads_outcome, script_outcome, statements_outcome}
use Rattle.cla_cli.specs.declared.inputs.Inputs.{Inputs}
use Rattle.cla_cli.proofs.ReadLaws.{lets_error}
use Rattle.cla_cli.proofs.InputsLaws.{inputs_needed, inputs_unread, inputs_reached, inputs_refused}
use Rattle.cla_cli.proofs.inputs.read_inputs.Goals as goal

pub returns-in-Err-clause-reads : goal.returns-in-Err-clause-reads
returns-in-Err-clause-reads g c told there =
    let statements = statements_of g.N.Number.value in
    lets_error
    (λ (s : Script g.row.N.Denot). reads_outcome g.N.Number.BITS c.args.budget told (statements s.statements.items))
    (λ (inputs : Inputs g.row.N.Denot).
    statements_outcome g.N.Number.BITS (statements (script_of inputs.checked).statements.items) inputs.tables.items)
    (script_outcome g.N.Number.BITS c.args.budget told c.args.name.now) c.in-Err.unfinished
    (c.in-Err.ensures.reads told c.args.budget there)

pub returns-in-Err-read_tables-clause-needed : goal.returns-in-Err-read_tables-clause-needed
returns-in-Err-read_tables-clause-needed g c told there =
    let statements = statements_of g.N.Number.value in
    inputs_needed g.N.Number.BITS c.args.budget told c.args.name.now (statements c.in-Ok.script.statements.items)
    (statements c.deref.result.now)
    (g.F.Files.state c.read_script.new.files).reading (g.F.Files.state c.read_tables.new.files).reading
    (ap statements c.deref.ensures.value) c.in-Ok.ensures.no_other (c.in-Ok.ensures.reads told c.args.budget there)
    (λ next. c.in-Err-read_tables.ensures.needed told next (c.in-Ok.ensures.frame.told ∙ there))

pub returns-in-Err-read_tables-clause-reads : goal.returns-in-Err-read_tables-clause-reads
returns-in-Err-read_tables-clause-reads g c told there =
    let statements = statements_of g.N.Number.value in
    inputs_unread g.N.Number.BITS c.args.budget told c.args.name.now
    (statements c.in-Ok.script.statements.items) (statements c.deref.result.now) c.in-Err-read_tables.unfinished
    (ap statements c.deref.ensures.value) (c.in-Ok.ensures.reads told c.args.budget there)
    (λ next. c.in-Err-read_tables.ensures.reads told next (c.in-Ok.ensures.frame.told ∙ there))

pub returns-in-Ok-check_script-clause-needed : goal.returns-in-Ok-check_script-clause-needed
returns-in-Ok-check_script-clause-needed g c told there =
    let statements = statements_of g.N.Number.value in
    inputs_needed g.N.Number.BITS c.args.budget told c.args.name.now (statements c.in-Ok.script.statements.items)
    (statements c.deref.result.now)
    (g.F.Files.state c.read_script.new.files).reading (g.F.Files.state c.read_tables.new.files).reading
    (ap statements c.deref.ensures.value) c.in-Ok.ensures.no_other (c.in-Ok.ensures.reads told c.args.budget there)
    (λ next. c.in-Ok-read_tables.ensures.needed told next (c.in-Ok.ensures.frame.told ∙ there))

pub returns-in-Ok-check_script-clause-reads : goal.returns-in-Ok-check_script-clause-reads
returns-in-Ok-check_script-clause-reads g c told there =
    let statements = statements_of g.N.Number.value in
    let same = ap (λ (s : Script g.row.N.Denot). statements s.statements.items) c.in-Ok-check_script.ensures.same in
    inputs_reached g.N.Number.BITS c.args.budget told c.args.name.now (statements c.in-Ok.script.statements.items)
    (statements c.deref.result.now)
    (statements (script_of c.in-Ok-check_script.checked).statements.items) c.in-Ok-read_tables.tables.items
    c.deref-2.result.now
    c.in-Ok-check_script.checked (ap statements c.deref.ensures.value) same c.deref-2.ensures.value
    (c.in-Ok.ensures.reads told c.args.budget there)
    (λ next. c.in-Ok-read_tables.ensures.reads told next (c.in-Ok.ensures.frame.told ∙ there))
    c.in-Ok-check_script.ensures.passes

pub returns-in-Err-check_script-clause-needed : goal.returns-in-Err-check_script-clause-needed
returns-in-Err-check_script-clause-needed g c told there =
    let statements = statements_of g.N.Number.value in
    inputs_needed g.N.Number.BITS c.args.budget told c.args.name.now (statements c.in-Ok.script.statements.items)
    (statements c.deref.result.now)
    (g.F.Files.state c.read_script.new.files).reading (g.F.Files.state c.read_tables.new.files).reading
    (ap statements c.deref.ensures.value) c.in-Ok.ensures.no_other (c.in-Ok.ensures.reads told c.args.budget there)
    (λ next. c.in-Ok-read_tables.ensures.needed told next (c.in-Ok.ensures.frame.told ∙ there))

pub returns-in-Err-check_script-clause-reads : goal.returns-in-Err-check_script-clause-reads
returns-in-Err-check_script-clause-reads g c told there =
    let statements = statements_of g.N.Number.value in
    inputs_refused g.N.Number.BITS c.args.budget told c.args.name.now (statements c.in-Ok.script.statements.items)
    (statements c.deref.result.now)
    c.in-Ok-read_tables.tables.items c.deref-2.result.now c.in-Err-check_script.unfinished
    (ap statements c.deref.ensures.value) c.deref-2.ensures.value (c.in-Ok.ensures.reads told c.args.budget there)
    (λ next. c.in-Ok-read_tables.ensures.reads told next (c.in-Ok.ensures.frame.told ∙ there))
    c.in-Err-check_script.ensures.passes
